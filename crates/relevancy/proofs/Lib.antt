pub mod OperationLaws
pub mod EngineLaws
pub mod SessionLaws
pub mod Theorems
