pub mod Pack
pub mod Claims
