-- Laws of bits.
pub mod BitLaws
pub mod BitWalk
pub mod SetLaws
