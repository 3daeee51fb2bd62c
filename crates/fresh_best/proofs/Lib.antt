-- Laws of the choice with nothing kept.
pub mod FreshLaws
