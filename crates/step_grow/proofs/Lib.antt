-- Laws of a memory that grows.
pub mod LinkLaws
pub mod GrowLaws
