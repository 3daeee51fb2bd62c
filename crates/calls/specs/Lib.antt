-- What the table's length answers, and what the calls' contracts settle.
pub mod Answers
pub mod Once
