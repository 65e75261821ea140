pub mod EngineLaws
pub mod Theorems
