-- What it is to change one buffer of a state in words.
pub mod Remade
