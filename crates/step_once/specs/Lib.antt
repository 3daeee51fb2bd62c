-- What a step chooses by.
pub mod Choosing
