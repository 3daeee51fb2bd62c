-- What is said of a table so far.
pub mod Entries
