-- Laws of the sets of rules that a run keeps.
pub mod WakeLaws
pub mod MoveLaws
pub mod LayLaws
