-- What a run with nothing kept answers, and a law of it.
pub mod Turns
pub mod Went
