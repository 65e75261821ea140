-- The vocabulary of inner contracts: what functions say to each other of their buffers.
pub mod Labels
pub mod Gathered
pub mod Tally
