-- What the fetches that are timed answer.
pub mod Asked
