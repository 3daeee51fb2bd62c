-- Laws of the slot counts and of the opening state.
pub mod OpeningLaws
