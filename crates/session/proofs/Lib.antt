pub mod RecordLaws
pub mod CallLaws
pub mod EndLaws
pub mod Theorems
