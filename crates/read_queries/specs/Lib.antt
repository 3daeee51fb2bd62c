-- What is said of the number of a rule's queries.
pub mod Asked
