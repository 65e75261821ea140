pub mod NextLaws
pub mod OfferLaws
pub mod RefusalLaws
pub mod Theorems
