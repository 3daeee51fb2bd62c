-- Outside cases with answers (vectors/06.txt), held to the definitions of `meaning`: what a row is, and the tables of rows.
pub mod Rows
pub mod Cases
