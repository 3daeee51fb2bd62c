-- What the code's answers about an action say.
pub mod Deeds
