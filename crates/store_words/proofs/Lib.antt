-- Laws of a store's words: what is left in it, its places, its facts on a tape, and what is written back.
pub mod StoreLaws
pub mod PlaceLaws
pub mod LoadLaws
pub mod BackLaws
