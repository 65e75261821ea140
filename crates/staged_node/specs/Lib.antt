pub mod terms
