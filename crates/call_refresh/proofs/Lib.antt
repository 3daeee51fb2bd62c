-- Laws of a refresh.
pub mod RefreshLaws
