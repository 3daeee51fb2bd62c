-- Laws of actions, their rows and the words of a rule.
pub mod ActionLaws
