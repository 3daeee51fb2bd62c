-- Laws of a buffer's slots in words, and of what is found for a request.
pub mod SlotLaws
pub mod FoundLaws
