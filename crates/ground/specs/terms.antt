-- The vocabulary of inner contracts: what the functions of this crate say to each other of their buffers.
pub mod Placed
pub mod Heading
pub mod Sides
pub mod Branching
pub mod Chosen
