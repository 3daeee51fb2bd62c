-- Laws of a test, read field by field.
pub mod TestLaws
