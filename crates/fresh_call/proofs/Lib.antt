-- Laws of the calls without a table.
pub mod CallLaws
