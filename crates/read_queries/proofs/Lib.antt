-- Laws of queries: one, one after the other, and all of a rule's.
pub mod QueryLaws
