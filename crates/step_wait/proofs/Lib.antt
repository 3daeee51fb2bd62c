-- Laws of a mark, of a loop that lowers every delay, and of the soonest delay.
pub mod MarkLaws
pub mod StepLaws
pub mod DelayLaws
