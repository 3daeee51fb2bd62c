-- A buffer and a stretch of words, and which words hold a well formed state.
pub mod Words
