-- Laws of an acceptance.
pub mod TakenLaws
