pub mod Aided
pub mod Turns
pub mod Went
