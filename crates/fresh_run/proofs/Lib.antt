-- Laws of a run with nothing kept.
pub mod RunLaws
