-- Proofs of the statements, one file for one notion.
pub mod Back
pub mod Calling
pub mod Noted
pub mod Alike
pub mod Alone
pub mod Placed
pub mod Lent
