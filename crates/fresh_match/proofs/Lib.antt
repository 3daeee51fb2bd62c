-- Laws of a match by itself.
pub mod SymbolLaws
pub mod PlainLaws
