-- Laws of the retrieval.
pub mod FitLaws
pub mod TurnLaws
pub mod ChainLaws
pub mod LeapLaws
pub mod AlikeChains
