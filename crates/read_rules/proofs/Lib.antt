-- Laws of the reading of rules.
pub mod RuleLaws
pub mod RowsOfRules
