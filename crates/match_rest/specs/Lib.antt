-- What a run keeps of rules between two steps.
pub mod Rest
pub mod Visits
