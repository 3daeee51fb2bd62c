-- A memory that grows.
pub mod Grown
