-- Laws of keys, and of the best so far.
pub mod KeyLaws
pub mod TurnLaws
