pub mod ModelCheck
pub mod Holding
pub mod Demand2
pub mod Claims
