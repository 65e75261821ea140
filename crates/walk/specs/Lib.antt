pub mod Numbers
pub mod terms
