-- A store in words, and its facts on a tape.
pub mod Rows
pub mod Loads
