-- The vocabulary of inner contracts: what functions say to each other of their buffers.
pub mod Sized
