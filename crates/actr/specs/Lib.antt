-- The contract of the printing program settles what is written.
pub mod Once
