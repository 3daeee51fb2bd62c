-- The match, test by test and slot by slot, and then of the queries, as the code goes; a rule and its variables as they stand in words; and why a rule does not match.
pub mod Run
pub mod Words
pub mod Shut
