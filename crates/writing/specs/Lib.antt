pub mod Write
pub mod terms
pub mod Claims
