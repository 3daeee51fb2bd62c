-- What the number of a fact stands for, and the chains that facts are in.
pub mod Found
pub mod Chains
