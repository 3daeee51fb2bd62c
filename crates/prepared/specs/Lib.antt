-- What a laid out image and a rule's words say, as values of the code.
pub mod Views
