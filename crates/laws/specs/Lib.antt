-- What follows from the definitions: laws on meaning's X stand in XLaws here. Besides, laws of parts of a list that are lent.
pub mod BaseLaws
pub mod HighestLaws
pub mod BitsLaws
pub mod ReadLaws
pub mod FieldLaws
pub mod PlaceLaws
pub mod ImageLaws
pub mod MatchLaws
pub mod ChoiceLaws
pub mod RetrievalLaws
pub mod MarkLaws
pub mod RefreshLaws
pub mod RunLaws
pub mod CallsLaws
pub mod PartLaws
pub mod StoreLaws
