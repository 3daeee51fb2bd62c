-- Laws of words, rows, loops, fetched fields and the sections of a tape, which the layers above cite.
pub mod WordLaws
pub mod RowLaws
pub mod LoopLaws
pub mod FieldReads
pub mod StateLaws
pub mod BestLaws
pub mod PlanLaws
pub mod KeptLaws
pub mod GrowthLaws
