-- What the number of a rule stands for with a table, and the order in which rules are preferred as the code has it.
pub mod Chosen
pub mod Ranks
