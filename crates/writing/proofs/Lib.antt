pub mod WriteLaws
pub mod CompareLaws
pub mod LentLaws
pub mod Theorems
