pub mod TakenLaws
