-- What is promised of the calls for C, and of the run without a table in Rattle too: the words of the statements in specs/Handing, the statements in Holding, Placing,
-- Noting, Alike and Remembering; their proofs stand apart, in Proofs.
pub mod Holding
pub mod Placing
pub mod Noting
pub mod Alike
pub mod Remembering
pub mod Proofs
