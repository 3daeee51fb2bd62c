-- How many queries a rule has, in its words.
use Rattle.std.specs.Prelude.{ℕ, ◌≤◌, List, get_or, Result, IfOk}
use Rattle.meaning.specs.declared.reasons.Refusal.{Refusal}

-- where the queries were read, there are at most eight
abbrev pub FewIf : Result (Unit {0}) Refusal → List ℕ → Type 0
FewIf read own = IfOk read (λ u. get_or own 88 0 ≤ 8)
