pub mod terms
pub mod AltLaws
pub mod SoundLaws
pub mod TiedLaws
