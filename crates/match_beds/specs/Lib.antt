-- The sets of rules that a run keeps, and what waking, gathering and lying down leave of them.
pub mod Beds
pub mod Woken
pub mod Moves
