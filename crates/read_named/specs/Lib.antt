-- What the masks of the code hold.
pub mod Masks
