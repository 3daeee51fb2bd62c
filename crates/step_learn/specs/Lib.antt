-- What the firing of a rule would add to the store, and the buffers that it clears.
pub mod Joins
pub mod Clears
pub mod Knows
