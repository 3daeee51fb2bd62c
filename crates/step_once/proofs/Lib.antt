-- Laws of a step.
pub mod StepLaws
