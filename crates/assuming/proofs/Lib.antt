pub mod CheckLaws
pub mod FactLaws
pub mod RunLaws
pub mod LongerLaws
pub mod ModelLaws
pub mod MeaningLaws
pub mod Theorems
