pub mod Assume
pub mod Engines
pub mod terms
pub mod Claims
