pub mod Record
pub mod Calls
pub mod Claims
pub mod terms
