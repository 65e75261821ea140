pub mod CheckLaws
pub mod CheckLoops
pub mod HoldingLaws
pub mod Demand2
pub mod Theorems
