-- Sets of numbers in words of 64 bits.
pub mod Sets
