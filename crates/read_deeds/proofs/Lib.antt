-- Laws of tested buffers, kinds and deeds.
pub mod TestedLaws
pub mod DeedLaws
