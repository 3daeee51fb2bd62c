-- Laws of the lines that a run's answer gives, and of an opening's.
pub mod RunLaws
pub mod OpenLaws
