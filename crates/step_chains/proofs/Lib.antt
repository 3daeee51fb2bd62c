-- Laws of chains on a tape.
pub mod ChainLaws
