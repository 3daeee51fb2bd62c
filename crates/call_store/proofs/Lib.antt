-- Laws of what a run is handed besides its image.
pub mod LendLaws
pub mod AdmitLaws
