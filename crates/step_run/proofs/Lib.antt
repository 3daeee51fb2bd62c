-- Laws of a run.
pub mod RunLaws
