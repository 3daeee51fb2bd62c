-- Laws of the whole image.
pub mod WholeLaws
pub mod TapeLaws
