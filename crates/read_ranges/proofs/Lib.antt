-- A field that was read whatever its value, and then judged.
pub mod Judged
