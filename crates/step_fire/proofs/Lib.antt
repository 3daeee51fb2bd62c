-- Laws of the action on a buffer, and of all the actions of a rule.
pub mod ActLaws
pub mod FireLaws
