-- Laws of the match.
pub mod TestLaws
pub mod WordMatch
pub mod Link
pub mod MadeLaws
pub mod ShutLaws
pub mod QueryLaws
