-- Laws of noted events, and of a run that notes them.
pub mod NoteLaws
pub mod TurnLaws
