-- Laws of the refresh of a run.
pub mod SleepLaws
pub mod VisitLaws
pub mod EntryLaws
pub mod RoundLaws
pub mod RenewLaws
pub mod LayLaws
pub mod KeptLaws
