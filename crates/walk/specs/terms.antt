-- The vocabulary of inner contracts: what the functions of this crate say to each other of their buffers.
pub mod Trail
pub mod Walker
pub mod Path
pub mod Place
pub mod Walk
pub mod Alternatives
pub mod Resume
pub mod Left
