pub mod Parts
pub mod Runs
pub mod Claims
pub mod terms
pub mod Listed
