-- What a match by itself says.
pub mod Hits
