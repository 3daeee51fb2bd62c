-- Laws of masks and their terms.
pub mod MaskBits
pub mod MaskWalk
pub mod TermLaws
