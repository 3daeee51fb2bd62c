-- A mark names every buffer that a step changed for some test or query; so the refresh of a fresh table is fresh.
use Rattle.std.specs.Prelude.{if◌then◌else◌, ◌≡◌, refl, Bool, true, false, List, [], ◌∷◌, ◌++◌, ℕ, ℤ, length}
use Rattle.std.proofs.Common.{ap₂, subst, ⊎_elim, take_at, drop_at}
use Rattle.meaning.specs.declared.State.{State}
use Rattle.meaning.specs.Base.{any_of, bit}
use Rattle.meaning.specs.Model.{Model, Rule, Fact}
use Rattle.meaning.specs.State.{buffer_of}
use Rattle.meaning.specs.Match.{entry_of, fresh_table}
use Rattle.meaning.specs.Step.{Event, step_made, step}
use Rattle.meaning.specs.Refresh.{tests_marked, refresh}
use Rattle.laws.specs.MatchLaws.{entry_length}
use Rattle.laws.specs.MarkLaws.{Leaves, StepLeaves, step-leaves, waits-alike, Marks, entry-unmarked}
use Rattle.promises.specs.Words.{SeesMarked, by-test, by-query}
use Rattle.promises.proofs.Proofs.Decoded.{or_cases, or-first, or-second}
use Rattle.promises.proofs.Proofs.Matching.{any-passing, passing-any}

-- ---- what a step promises of its mark

module _ (m : Model) (memory : List Fact) (us : List ℤ) (s : State) (table : List ℕ) (e : Event) (s' : State) (mark : ℕ) (made : step m memory us s table ≡ step_made e s' mark) where
  pub made-leaves : Leaves s s' mark
  made-leaves = subst (StepLeaves s) made (step-leaves m memory us s table)

  pub made-marks : Marks s s' mark
  made-marks b off = waits-alike (buffer_of s b) (buffer_of s' b) (made-leaves b off)

-- ---- which rules a mark renews

module _ (mark : ℕ) (r : Rule) where
  abbrev on_tests : Bool
  on_tests = any_of (λ t. bit mark t.buffer) r.tests

  abbrev on_queries : Bool
  on_queries = any_of (λ q. bit mark q.buffer) r.queries

  pub marked-sees : tests_marked mark r ≡ true → SeesMarked mark r
  marked-sees e =
      ⊎_elim (λ (k : on_tests ≡ true). let t = any-passing (λ t. bit mark t.buffer) r.tests k in by-test t.member t.passes)
      (λ (k : on_queries ≡ true). let q = any-passing (λ q. bit mark q.buffer) r.queries k in by-query q.member q.passes)
      (or_cases on_tests on_queries e)

  pub sees-marked : SeesMarked mark r → tests_marked mark r ≡ true
  sees-marked (by-test {t = t} h k) = or-first on_tests on_queries (passing-any (λ t. bit mark t.buffer) r.tests t h k)
  sees-marked (by-query {q = q} h k) = or-second on_tests on_queries (passing-any (λ q. bit mark q.buffer) r.queries q h k)

-- ---- the refresh of a fresh table

-- one rule's entry after the refresh is the fresh one
fresh-entry : (r : Rule) (s s' : State) (mark : ℕ) → Marks s s' mark → (t : Bool) → tests_marked mark r ≡ t → (if t then entry_of r s' else entry_of r s) ≡ entry_of r s'
fresh-entry r s s' mark h true e = refl
fresh-entry r s s' mark h false e = entry-unmarked r s s' mark h e

pub refresh-fresh : (rs : List Rule) (s s' : State) (mark : ℕ) → Marks s s' mark → refresh rs s' mark (fresh_table rs s) ≡ fresh_table rs s'
unfolding refresh fresh_table
refresh-fresh [] s s' mark h = refl
refresh-fresh (r ∷ rs) s s' mark h =
    let l : length (entry_of r s) ≡ 9 = entry_length r s in
    rw (take_at (entry_of r s) (fresh_table rs s) 9 l, drop_at (entry_of r s) (fresh_table rs s) 9 l)
    (ap₂ (λ (x y : List ℕ). x ++ y) (fresh-entry r s s' mark h (tests_marked mark r) refl) (refresh-fresh rs s s' mark h))
