-- What a run is handed besides its image.
pub mod Lending
