-- What a deed makes of a buffer.
pub mod Deeds
