-- What a run is, whichever engine makes its steps.
pub mod Runs
