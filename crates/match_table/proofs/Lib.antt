-- Laws of the loops over the table's entries.
pub mod TableLaws
