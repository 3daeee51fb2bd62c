-- Laws of the table's length.
pub mod LengthLaws
