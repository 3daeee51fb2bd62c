-- The events of a run in words.
pub mod Events
