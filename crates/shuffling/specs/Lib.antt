pub mod Shuffled
pub mod Cases
pub mod Claims
