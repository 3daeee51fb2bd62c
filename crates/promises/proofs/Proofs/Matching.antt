-- A binding under which all tests and queries of a rule hold is a match, and its entry holds the values of each such binding.
use Rattle.std.specs.Prelude.{◌≡◌, refl, true, ℕ, zero, suc, ◌+◌, ◌<◌, ltb, get_or}
use Rattle.std.proofs.Common.{ap, ◌∙◌, add-zero, zero-add, arith, ltb-true}
use mathlib.Core.List.{List, map, Memᴰ}
use Rattle.meaning.specs.declared.State.{State}
use Rattle.meaning.specs.Base.{any_of, up_from}
use Rattle.meaning.specs.Model.{Rule, Test, Named, Term, symbol, variable}
use Rattle.meaning.specs.State.{buffer_of}
use Rattle.meaning.specs.Image.{is_variable, stands_in}
use Rattle.meaning.specs.Match.{place, places, value_in, tests_hold, answers, queries_hold, matches, entry_of}
use Rattle.meaning.specs.Retrieval.{value_of}
use Rattle.laws.specs.BaseLaws.{and_left, and_right}
use Rattle.promises.specs.Published.{stands_for, Holds, Binds, Matches}
use Rattle.promises.proofs.Proofs.Decoded.{and-true, good_term}
pub use Rattle.promises.proofs.Proofs.MatchingTests.{member-all, Passing, any-passing, passing-any, takes-filled, above_zero, answers-finds, finds-answers, matches-tests, matches-queries, tests-show, matches-bind}
use Rattle.promises.proofs.Proofs.MatchingTests.{place-in, places-bound, is-variable, value-bound, bind-tests}

pub bind-matches : (r : Rule) (s : State) (v : ℕ → ℕ) → Binds r s v → matches r s ≡ true
unfolding matches
bind-matches r s v h =
    and-true (tests_hold r.tests s) (queries_hold r.queries s) (bind-tests s r.tests v h.tests_hold)
    (member-all (λ q. answers q.asks (buffer_of s q.buffer)) r.queries (λ q k. finds-answers q.asks (buffer_of s q.buffer) (h.queries_hold q k)))

-- ---- the entry holds the values of every binding

record Standing (ts : List Test) (w : ℕ) : Type 0 where
  test : Test
  test_in : Memᴰ test ts
  named : Named
  named_in : Memᴰ named test.named
  is : named.term ≡ variable w

standing : (ts : List Test) (w : ℕ) → stands_in ts w ≡ true → Standing ts w
standing ts w e =
    let t = any-passing (λ t. any_of (λ n. is_variable w n.term) t.named) ts e in
    let n = any-passing (λ n. is_variable w n.term) t.element.named t.passes in
    record { test = t.element; test_in = t.member; named = n.element; named_in = n.member; is = is-variable w n.element.term n.passes }

get_or-values : (f : ℕ → ℕ) (i n b : ℕ) → b < n → get_or (map f (up_from i n)) b 0 ≡ f (i + b)
get_or-values f i zero b h = absurd (omega arith)
get_or-values f i (suc n) zero h = rw add-zero
get_or-values f i (suc n) (suc b) h = get_or-values f (i + 1) n b (omega arith) ∙ ap f (omega arith)

pub entry_value : (r : Rule) (s : State) (w : ℕ) → matches r s ≡ true → w < 8 → get_or (entry_of r s) (w + 1) 0 ≡ value_in (places r.tests s) w
unfolding entry_of
entry_value r s w e h =
    let z : w + 1 ≡ suc w = omega arith in
    rw (e, z) (get_or-values (value_in (places r.tests s)) 0 8 w h ∙ ap (value_in (places r.tests s)) (zero-add w))

-- a term of an action means under the entry what it means under any binding
pub value-binds : (r : Rule) (s : State) (v : ℕ → ℕ) → Binds r s v → (t : Term) → good_term r.tests t ≡ true → value_of (entry_of r s) t ≡ stands_for v t
value-binds r s v h (symbol x) g = refl
value-binds r s v h (variable w) g =
    let i : Standing r.tests w = standing r.tests w (and_right (ltb w 8) (stands_in r.tests w) g) in
    entry_value r s w (bind-matches r s v h) (ltb-true w 8 (and_left (ltb w 8) (stands_in r.tests w) g))
    ∙ value-bound v (places r.tests s) (places-bound v s r.tests h.tests_hold) w (place (buffer_of s i.test.buffer) i.named)
    (place-in s r.tests i.test i.named i.test_in i.named_in) i.is

-- no variable that stands in a test is bound to nil
pub bound-filled : (r : Rule) (s : State) (v : ℕ → ℕ) → Binds r s v → (w : ℕ) → stands_in r.tests w ≡ true → v w ≡ 0 → ⊥
bound-filled r s v h w e nil =
    let i : Standing r.tests w = standing r.tests w e in
    let holds : Holds v s i.test = h.tests_hold i.test i.test_in in
    holds.filled i.named i.named_in w i.is (holds.valued i.named i.named_in ∙ ap (stands_for v) i.is ∙ nil)

-- the relation, for a test
pub is-match : (r : Rule) (s : State) → Matches r s → matches r s ≡ true
is-match r s h = bind-matches r s h.binding h.binds
