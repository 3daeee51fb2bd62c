-- What the number of a rule stands for, and the order of utilities as the code has it.
pub mod Chosen
pub mod Keys
