-- Laws of the choice.
pub mod TurnLaws
pub mod RankLaws
