pub mod terms
pub mod SoundLaws
pub mod TiedLaws
