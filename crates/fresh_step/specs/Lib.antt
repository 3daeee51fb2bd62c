-- What a step says of itself.
pub mod Moves
