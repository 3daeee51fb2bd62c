-- Chains on a tape.
pub mod Laid
