-- Whether a rule matches, and its entry.
use Rattle.std.specs.Prelude.{if◌then◌else◌, ℕ, ◌≡◌, Bool, true, List, ◌∷◌, eqb, get_or, replicate}
use Rattle.meaning.specs.Model.{Rule}
use Rattle.meaning.specs.Match.{queries_hold, entry_of}
use Rattle.layout.specs.Rows.{queries_at}
use Rattle.layout.specs.StateWords.{state_in}
use Rattle.match_rule.specs.Words.{StandsAt}
use Rattle.fresh_match.specs.declared.Looked.{Looked}
use Rattle.fresh_match.specs.declared.Looked.TheVariants.{Differs, Holds, Meets}

-- no rule whose words start at o, with n tests, matches the state
abbrev pub NoMatch : List ℕ → ℕ → ℕ → List ℕ → Type 0
NoMatch words o n state = (r : Rule) (clock : ℕ) → StandsAt r words o n → entry_of r (state_in state clock) ≡ replicate 9 0

-- the entry of a rule whose tests hold, without a variable in them, by whether its queries hold
abbrev pub plain_entry : Bool → List ℕ
plain_entry held = if held then 1 ∷ replicate 8 0 else replicate 9 0

-- every rule whose words start at o, with n tests, matches if its queries hold, and has no variable
abbrev pub PlainMatch : List ℕ → ℕ → ℕ → List ℕ → Type 0
PlainMatch words o n state = (r : Rule) (clock : ℕ) → StandsAt r words o n → entry_of r (state_in state clock) ≡ plain_entry (queries_hold (queries_at words o) (state_in state clock))

-- what each answer of a look says; of a rule whose variables are not bound yet nothing is said
abbrev pub LookMet : Looked → List ℕ → ℕ → ℕ → List ℕ → Type 0
LookMet Differs words o n state = NoMatch words o n state
LookMet Holds words o n state = PlainMatch words o n state
LookMet Meets words o n state = Unit {0}

-- the answer says whether any rule with these tests and queries matches, that is, whether the first word of its entry is 1; if so, the nine words are the entry
pub record HitMet (hit : Bool) (nine words : List ℕ) (o n : ℕ) (state : List ℕ) : Type 0 where
  pub counted : (r : Rule) (clock : ℕ) → StandsAt r words o n → hit ≡ eqb (get_or (entry_of r (state_in state clock)) 0 0) 1
  pub entered : hit ≡ true → (r : Rule) (clock : ℕ) → StandsAt r words o n → nine ≡ entry_of r (state_in state clock)
