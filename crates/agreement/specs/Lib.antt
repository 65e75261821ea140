pub mod Claims
pub mod Sessions
pub mod Assuming
