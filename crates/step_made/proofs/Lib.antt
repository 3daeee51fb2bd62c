-- Laws of a step, by its cases.
pub mod MadeLaws
