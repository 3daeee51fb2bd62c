-- Laws of an opening.
pub mod OpenLaws
