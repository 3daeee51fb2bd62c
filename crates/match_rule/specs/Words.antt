-- What stands in words: a rule's tests and queries; and its variables, which of eight are bound, and their values, in the last eight words of the rule's entry.
use Rattle.std.specs.Prelude.{ℕ, ◌≡◌, List, drop}
use Rattle.meaning.specs.Model.{Rule}
use Rattle.layout.specs.Rows.{tests_in, queries_at}
use Rattle.match_rule.specs.Run.{Vars}

abbrev pub vars_in : List ℕ → List ℕ → Vars
vars_in bound nine = record { bound = bound; values = drop 1 nine }

-- the tests and queries of a rule are those whose words start at o, n tests in all
pub record StandsAt (r : Rule) (words : List ℕ) (o n : ℕ) : Type 0 where
  pub tests : r.tests ≡ tests_in words o n
  pub queries : r.queries ≡ queries_at words o
