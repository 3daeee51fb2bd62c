-- What the printing program writes, in letters.
pub mod Text
pub mod Examples
pub mod Written
