-- Laws of what is laid on a tape besides the model.
pub mod AidLaws
