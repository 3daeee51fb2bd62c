-- The words of what is promised of the calls for C, and of the run without a table in Rattle too.
pub mod Handing
