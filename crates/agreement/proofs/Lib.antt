pub mod Theorems
pub mod Sessions
pub mod Assuming
