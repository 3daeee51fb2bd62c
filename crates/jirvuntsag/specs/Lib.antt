-- The state in 89 words, what the calls answer in words, and that this settles all.
pub mod Words
pub mod Told
pub mod Once
pub mod Back
pub mod Fresh
pub mod Lent
