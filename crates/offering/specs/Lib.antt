pub mod Offer
pub mod terms
pub mod Claims
