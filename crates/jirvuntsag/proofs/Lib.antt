-- Laws of the state in words, and of the calls on words.
pub mod WordLaws
pub mod ToldLaws
pub mod FreshLaws
pub mod LentLaws
