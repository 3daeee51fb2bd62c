-- The head of a rule as it was read, what is left of a rule once its tests and queries were, and a rule by its four words.
use Rattle.std.specs.Prelude.{ℕ, ◌*◌, ◌≤◌, ◌≡◌, List, [], Result, OnOk, length, get_or}
use Rattle.meaning.specs.declared.reasons.Refusal.{Refusal}
use Rattle.meaning.specs.Base.{every, up_from}
use Rattle.meaning.specs.Model.{Sizes, Test, Query, Action, Rule}
use Rattle.meaning.specs.Read.{Read, read_got, follow}
use Rattle.meaning.specs.Numbers.{finer}
use Rattle.meaning.specs.Image.{Head, utility_of, actions, body}
use Rattle.laws.specs.RefreshLaws.{MaskOf}
use Rattle.layout.specs.Rows.{tests_in, queries_at, actions_in}
use Rattle.read_ranges.specs.Cursors.{Cursor}
use Rattle.read_ranges.specs.Reading.{told_by, Follows}
use Rattle.read_rules.specs.declared.RuleHead.{RuleHead}

abbrev pub head_in : RuleHead → Head
head_in r = record { utility = r.utility; tests = r.tests; actions = r.actions; variables = r.variables }

-- a head whose counts are at most eight
pub record HeadSmall (h : RuleHead) : Type 0 where
  pub tests_few : h.tests ≤ 8
  pub actions_few : h.actions ≤ 8
  pub variables_few : h.variables ≤ 8

-- a rule from its parts
abbrev pub a_rule : ℕ → List Test → List Query → List Action → Rule
a_rule u ts qs as' = record { utility = utility_of u; tests = ts; queries = qs; actions = as' }

-- what is left of a rule once its tests and queries were read: its actions, and the rule that is made of all
abbrev pub rule_left : Sizes → RuleHead → List Test → List Query → List ℕ → ℕ → Read Rule
rule_left z h ts qs image q = follow (actions finer z h.variables ts h.actions image q) (λ as' end. read_got (a_rule h.utility ts qs as') end)

-- what the reading of tests and queries gives: from where they end the definition reads what is left; or its refusal; the image stays; and of queries that were read,
-- that there are at most eight
pub record ConditionsMet (r : Result (Unit {0}) Refusal) (old new : Cursor) (version : ℕ) (z : Sizes) (h : RuleHead) (own : List ℕ) : Type 0 where
  pub reads : body finer version z (head_in h) old.image old.at
      ≡ follow (told_by (λ u. queries_at own 0) r new) (λ qs at. rule_left z h (tests_in own 0 h.tests) qs old.image at)
  pub follows : Follows old new
  pub few : OnOk r (get_or own 88 0 ≤ 8)

-- a rule by its four words and those of its own
abbrev pub rule_by : List ℕ → List ℕ → Rule
rule_by four own = a_rule (get_or four 2 0) (tests_in own 0 (get_or four 0 0)) (queries_at own 0) (actions_in own 97 (get_or four 1 0))

-- what holds of the four words of a rule that was read, and of its own
pub record RuleFits (four own : List ℕ) : Type 0 where
  pub tests_few : get_or four 0 0 ≤ 8
  pub queries_few : get_or own 88 0 ≤ 8
  pub actions_few : get_or four 1 0 ≤ 8
  pub mask_is : MaskOf (rule_by four own) (get_or four 3 0)
