-- Laws of masks, and of what stands in rows.
pub mod Places
pub mod SeenLaws
