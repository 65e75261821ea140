pub mod EngineLaws
pub mod SessionLaws
pub mod FurtherLaws
pub mod OperationLaws
pub mod Theorems
