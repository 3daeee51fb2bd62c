-- What the chosen rule stands for where nothing is kept.
pub mod Matched
