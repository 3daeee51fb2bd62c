-- Laws of a step with nothing kept.
pub mod MoveLaws
