-- The nine words that a match leaves, and what they say.
use Rattle.std.specs.Prelude.{if◌then◌else◌}
use Prim.Native.Nat.{ℕ, ◌*◌}
use mathlib.Core.Path.{◌≡◌, refl, ap, ◌∙◌}
use mathlib.Core.Bool.{Bool, false}
use mathlib.Core.List.{List, [], ◌∷◌}
use native.Mathlib.Omega.{arith}
use lib.ListN.{length, get_or, set, drop}
use Rattle.layout.specs.Rows.{tests_in, queries_at, rule_in}
use Rattle.layout.specs.StateWords.{state_in}
use Rattle.match_rule.specs.declared.Tried.{Tried}
use Rattle.match_rule.specs.declared.Tried.TheVariants.{Hit, Differs, Varies}
use Rattle.match_rule.specs.Run.{Vars, Run, stop, on, then_on, rule_run, entry_words}
use Rattle.match_rule.specs.Words.{StandsAt}
use Rattle.match_rule.specs.Shut.{is_hit, Because, Made}
use Rattle.match_rule.proofs.Link.{entry-words}

-- a rule's tests and queries stand where its words start
pub rule-stands : (heads words : List ℕ) (k : ℕ) → StandsAt (rule_in heads words k) words (185 * k) (get_or heads (4 * k) 0)
rule-stands heads words k = record { tests = refl; queries = refl }

-- one of the other two variants
pub not-hit : (t : Tried) → (t ≡ Hit → ⊥) → is_hit t ≡ false
not-hit Hit h = absurd (h refl)
not-hit (Differs p v) h = refl
not-hit Varies h = refl

-- ---- tests, and then queries

-- u is what the tests come to, t what was found of them
module _ (t : Tried) (v : Vars) (u : Run) (e : (if is_hit t then on v else stop) ≡ u) (held : Bool) where
  pub tests-missed : is_hit t ≡ false → (if is_hit t then on v else stop) ≡ then_on u (λ v. if held then on v else stop)
  tests-missed none = rw (← e, none)

  pub tests-held : t ≡ Hit → (hit : Bool) → hit ≡ held → (if hit then on v else stop) ≡ then_on u (λ v. if held then on v else stop)
  tests-held is hit h = rw (← e, is, h)

-- ---- an entry that matches

pub hit-words : (nine : List ℕ) → length nine ≡ 9 → set nine 0 1 ≡ 1 ∷ drop 1 nine
hit-words [] e = absurd (omega arith)
hit-words (x ∷ l) e = refl

-- ---- what the nine words say

first_of : (t : Tried) (u : Vars) → get_or (entry_words (if is_hit t then on u else stop)) 0 0 ≡ (if is_hit t then 1 else 0)
first_of Hit u = refl
first_of (Differs p v) u = refl
first_of Varies u = refl

pub made : (t : Tried) (nine : List ℕ) (u : Vars) (words : List ℕ) (o n : ℕ) (state : List ℕ) → nine ≡ entry_words (if is_hit t then on u else stop)
    → ((clock : ℕ) → (if is_hit t then on u else stop) ≡ rule_run (state_in state clock) (tests_in words o n) (queries_at words o)) → Because t words o n state → Made t nine words o n state
made t nine u words o n state e run because =
    record {
      fresh = λ r clock q. e ∙ ap entry_words (run clock) ∙ entry-words words o n r (state_in state clock) q;
      first = ap (λ (l : List ℕ). get_or l 0 0) e ∙ first_of t u;
      because = because;
    }
