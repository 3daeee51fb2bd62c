-- Laws of things stored one after the other, of chunks and of facts.
pub mod StoreLaws
pub mod FactLaws
