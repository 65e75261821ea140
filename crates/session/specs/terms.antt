-- The vocabulary of inner contracts: what the functions of the engines say to each other of a session.
pub mod End
