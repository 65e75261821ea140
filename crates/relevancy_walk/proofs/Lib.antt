pub mod AltLaws
pub mod FreshLaws
pub mod FindLaws
