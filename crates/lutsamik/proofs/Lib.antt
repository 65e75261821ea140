pub mod StagedLaws
pub mod Narrow
pub mod CallLaws
pub mod AssumeLaws
pub mod Theorems
pub mod PartsLaws
