pub mod Engine
pub mod Claims
pub mod Sessions
