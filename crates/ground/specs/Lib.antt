pub mod Instance
pub mod Names
pub mod Report
pub mod Walks
pub mod Cases
pub mod Claims
pub mod Verdict
pub mod terms
