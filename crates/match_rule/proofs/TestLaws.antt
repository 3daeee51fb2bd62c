-- Laws of the match for a loop over tests with one over mask bits inside.
use Rattle.std.specs.Prelude.{if◌then◌else◌}
use Prim.Native.Nat.{ℕ, ◌+◌, ◌*◌, ◌-◌, ◌%◌, ◌≤◌, ◌<◌}
use mathlib.Core.Path.{◌≡◌, sym, ap, ◌∙◌}
use mathlib.Core.Bool.{Bool, true, false}
use mathlib.Core.List.{List, [], ◌∷◌, map}
use native.Mathlib.Omega.{arith}
use lib.ListN.{get_or}
use borrow.Author.Tests.{eq-eqb, ne_eqb}
use Rattle.meaning.specs.declared.Buffer.{Buffer}
use Rattle.meaning.specs.Model.{Named, Test}
use Rattle.meaning.specs.State.{nothing}
use Rattle.meaning.specs.Image.{names}
use Rattle.layout.specs.Rows.{rows_in, word_term, named_in, masked_in, test_in}
use Rattle.layout.proofs.RowLaws.{rows_left}
use Rattle.read_terms.proofs.MaskBits.{rest, rest-start, rest-on, rest-off}
use Rattle.match_rule.specs.Run.{Vars, Run, stop, on, then_on, term_run, terms_run, test_run, tests_run}

-- the named slots of a row from slot b on
unfoldable pub left : List ℕ → ℕ → ℕ → ℕ → List Named
left w q m b = map (named_in w q) (rest m b)

module _ (w : List ℕ) (q m b : ℕ) (h : b < 8) where
  left-on : names m b ≡ true → left w q m b ≡ named_in w q b ∷ left w q m (b + 1)
  unfolding left
  left-on z = rw (rest-on m b h z)

  left-off : names m b ≡ false → left w q m b ≡ left w q m (b + 1)
  unfolding left
  left-off z = rw (rest-off m b h z)

left_end : (w : List ℕ) (q m b : ℕ) → rest m b ≡ [] → left w q m b ≡ []
unfolding left
left_end w q m b h = rw h

left-start : (w : List ℕ) (q m : ℕ) → masked_in w q ≡ left w q (get_or w (q + 2) 0) 0
unfolding left
left-start w q m = rw (rest-start (get_or w (q + 2) 0))

-- ---- one slot

module _ (w xs : List ℕ) (q m b : ℕ) (v : Vars) (k : Vars → Run) (h : b < 8) where
  pub slot-skip : (v' : Vars) → v' ≡ v → names m b ≡ false
      → then_on (terms_run xs (left w q m (b + 1)) v') k ≡ then_on (terms_run xs (left w q m b) v) k
  slot-skip v' e z = rw (e, left-off w q m b h z)

  module _ (z : names m b ≡ true) (r : Bool) (u : Vars) (er : (if r then on u else stop) ≡ term_run (get_or xs b 0) (word_term (get_or w (q + 3 + b) 0)) v) where
    pub slot-on : (v' : Vars) → v' ≡ u → r ≡ true → then_on (terms_run xs (left w q m (b + 1)) v') k ≡ then_on (terms_run xs (left w q m b) v) k
    unfolding terms_run
    slot-on v' e o = rw (e, left-on w q m b h z, ← er, o)

    pub slot-over : r ≡ false → stop ≡ then_on (terms_run xs (left w q m b) v) k
    unfolding terms_run
    slot-over o = rw (left-on w q m b h z, ← er, o)

pub slots_end : (w xs : List ℕ) (q m b : ℕ) (v : Vars) (k : Vars → Run) → rest m b ≡ [] → k v ≡ then_on (terms_run xs (left w q m b) v) k
unfolding terms_run
slots_end w xs q m b v k h = rw (left_end w q m b h)

-- ---- one test: the tests that are left stand from row i on

abbrev pub tests_from : List ℕ → ℕ → ℕ → ℕ → List Test
tests_from w o i n = rows_in (λ k. test_in w (o + 11 * k)) i n

module _ (w : List ℕ) (bs : List Buffer) (o n i q : ℕ) (v : Vars) where
  pub tests-end : n ≤ i → on v ≡ tests_run bs (tests_from w o i (n - i)) v
  unfolding tests_run rows_in
  tests-end h = let e : n - i ≡ 0 = omega arith in rw e

  module _ (at : q ≡ o + 11 * i) (h : i < n) where
    pub first : tests_from w o i (n - i) ≡ test_in w q ∷ tests_from w o (i + 1) (n - (i + 1))
    first = let e : n - i + i ≡ n = omega arith in rows_left (λ k. test_in w (o + 11 * k)) i n h (n - i) e ∙ ap (λ (p : ℕ). test_in w p ∷ tests_from w o (i + 1) (n - (i + 1))) (sym at)

    abbrev buf : Buffer
    buf = get_or bs (get_or w q 0 % 8) nothing

    pub test-pending : (buf.delay ≡ 0 → ⊥) → stop ≡ tests_run bs (tests_from w o i (n - i)) v
    unfolding tests_run test_run
    test-pending z = rw (first, ne_eqb buf.delay 0 z)

    module _ (d : buf.delay ≡ 0) where
      pub test-other : (buf.isa ≡ get_or w (q + 1) 0 → ⊥) → stop ≡ tests_run bs (tests_from w o i (n - i)) v
      unfolding tests_run test_run
      test-other z = rw (first, eq-eqb buf.delay 0 d, ne_eqb buf.isa (get_or w (q + 1) 0) z)

      pub test_on : buf.isa ≡ get_or w (q + 1) 0
          → then_on (terms_run buf.slots (left w q (get_or w (q + 2) 0) 0) v) (λ u. tests_run bs (tests_from w o (i + 1) (n - (i + 1))) u) ≡ tests_run bs (tests_from w o i (n - i)) v
      unfolding tests_run test_run
      test_on z = rw (first, eq-eqb buf.delay 0 d, eq-eqb buf.isa (get_or w (q + 1) 0) z, left-start w q (get_or w (q + 2) 0))
