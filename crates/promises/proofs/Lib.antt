-- What is promised: Demands, a statement for each demand. The words of the statements are in Words, Sentences, Places and Published; the statements in Numbers and
-- Placing (demand 1), Semantics and Filling (demand 2), Refreshing, Marking, Keeping and Clearing (demand 3), Fresh (the run without a table), Remembering (a lent
-- store), Asking (queries and error flags) and Versions (the two versions of images, beside document 01 as it stood, in Before; all words in specs/); their proofs stand apart, in Proofs.
pub mod Numbers
pub mod Refreshing
pub mod Marking
pub mod Keeping
pub mod Clearing
pub mod Semantics
pub mod Filling
pub mod Fresh
pub mod Placing
pub mod Remembering
pub mod Asking
pub mod Versions
pub mod Demands
pub mod Proofs
