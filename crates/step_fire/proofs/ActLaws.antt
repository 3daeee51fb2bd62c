-- The deed on a buffer, and what it makes of it. In a loop over the action rows: what is left of the rows gives what all give.
use Prim.Native.Nat.{ℕ, zero, suc, ◌+◌, ◌-◌, ◌*◌, ◌%◌, ◌^◌, ◌≤◌, ◌<◌}
use mathlib.Core.Path.{◌≡◌, sym, ap, ◌∙◌}
use mathlib.Core.Bool.{true, ◌||◌, or-false, or_assoc}
use mathlib.Core.List.{List}
use mathlib.Core.Option.{Option, none, some}
use native.Mathlib.Decide.{ℕ_discrete}
use native.Mathlib.Omega.{arith}
use borrow.Author.Tests.{eq-eqb, ne_eqb, lt-ltb, le-ltb}
use lib.Bits.{bit_or}
use lib.Dec.{eqb}
use lib.ListN.{get_or}
use lib.Pow.{pow_mono}
use Rattle.meaning.specs.declared.Buffer.{Buffer}
use Rattle.meaning.specs.Base.{bit}
use Rattle.meaning.specs.Model.{Named, Deed, Fact}
use Rattle.meaning.specs.State.{nil_after}
use Rattle.meaning.specs.Retrieval.{retrieve, retrieved}
use Rattle.meaning.specs.Fire.{done, deed_on}
use Rattle.meaning.specs.Mark.{is_some, acted_on}
use Rattle.layout.specs.Rows.{rows_in, deed_of, action_in, actions_in}
use Rattle.layout.proofs.RowLaws.{rows_left}
use Rattle.laws.specs.BaseLaws.{by-lt, no_true, bit-zero}
use Rattle.match_sets.proofs.BitLaws.{bit-or, bit-power}
use Rattle.step_effect.specs.Deeds.{modified}
use Rattle.step_fire.specs.Acts.{ActedMask}

-- the buffer of row i
abbrev pub on_row : List ℕ → ℕ → ℕ → ℕ
on_row words o i = get_or words (o + 11 * i) 0 % 8

-- the deed on buffer k in the rows from i on
unfoldable pub deed_from : List ℕ → ℕ → ℕ → ℕ → ℕ → Option Deed
deed_from words o m k i = deed_on (rows_in (λ j. action_in words (o + 11 * j)) i (m - i)) k

pub deed-start : (words : List ℕ) (o m k : ℕ) → deed_from words o m k 0 ≡ deed_on (actions_in words o m) k
unfolding deed_from
deed-start words o m k = let e : m - 0 ≡ m = omega arith in rw e

module _ (words : List ℕ) (o m k i : ℕ) where
  pub deed-here : i < m → on_row words o i ≡ k → deed_from words o m k i ≡ some (action_in words (o + 11 * i)).deed
  unfolding deed_from deed_on
  deed-here h e =
      let n : m - i + i ≡ m = omega arith in
      rw (rows_left (λ j. action_in words (o + 11 * j)) i m h (m - i) n, eq-eqb _ _ e)

  pub deed-further : i < m → (on_row words o i ≡ k → ⊥) → deed_from words o m k (i + 1) ≡ deed_from words o m k i
  unfolding deed_from deed_on
  deed-further h e =
      let n : m - i + i ≡ m = omega arith in
      rw (rows_left (λ j. action_in words (o + 11 * j)) i m h (m - i) n, ne_eqb _ _ e)

  deed-none : m ≤ i → deed_from words o m k i ≡ none
  unfolding deed_from deed_on rows_in
  deed-none h = let e : m - i ≡ 0 = omega arith in rw e

  -- where a deed is left, a row is
  pub deed-left : is_some (deed_from words o m k i) ≡ true → i < m
  deed-left e = by-lt i m (λ h. h) (λ h. absurd (no_true (sym e ∙ ap is_some (deed-none h))))

-- the deed that is left at the last row is its own
pub deed-last : (words : List ℕ) (o m k i : ℕ) → m ≤ i + 1 → is_some (deed_from words o m k i) ≡ true → deed_from words o m k i ≡ some (action_in words (o + 11 * i)).deed
deed-last words o m k i h e =
    let l = deed-left words o m k i e in
    elim (ℕ_discrete (on_row words o i) k) [
      | yes on ↦ deed-here words o m k i l on
      | no off ↦ absurd (no_true (sym e ∙ ap is_some (sym (deed-further words o m k i l off) ∙ deed-none words o m k (i + 1) h)))
    ]

-- a row's buffer is one of eight
pub acted-low : (words : List ℕ) (o i n k : ℕ) → acted_on (rows_in (λ j. action_in words (o + 11 * j)) i n) k ≡ true → k < 8
unfolding deed_on rows_in
acted-low words o i zero k e = absurd (no_true (sym e))
acted-low words o i (suc n) k e =
    elim (ℕ_discrete (on_row words o i) k) [
      | yes on ↦ omega arith
      | no off ↦ acted-low words o (i + 1) n k (rw (ne_eqb (on_row words o i) k off) at e)
    ]

-- ---- the mask of the buffers acted on, in a loop over the rows: with the rows that are left it tells of all

module _ (words : List ℕ) (o m : ℕ) where
  abbrev pub Masked : ℕ → ℕ → Type 0
  Masked i mask = (k : ℕ) → (bit mask k || is_some (deed_from words o m k i)) ≡ acted_on (actions_in words o m) k

  pub masked-start : Masked 0 0
  masked-start k = rw (bit-zero k) (ap is_some (deed-start words o m k))

  pub masked-end : (i mask : ℕ) → m ≤ i → Masked i mask → ActedMask (actions_in words o m) mask
  masked-end i mask h f k = sym (or-false (bit mask k)) ∙ ap (λ (d : Option Deed). bit mask k || is_some d) (sym (deed-none words o m k i h)) ∙ f k

  -- a row's buffer, beside those of the rows after it
  row_more : (i k : ℕ) → i < m → (eqb k (on_row words o i) || is_some (deed_from words o m k (i + 1))) ≡ is_some (deed_from words o m k i)
  row_more i k h =
      elim (ℕ_discrete (on_row words o i) k) [
        | yes on ↦ rw (eq-eqb k (on_row words o i) (sym on), deed-here words o m k i h on)
        | no off ↦ rw (ne_eqb k (on_row words o i) (λ e. off (sym e))) (ap is_some (deed-further words o m k i h off))
      ]

  pub masked-turn : (i mask : ℕ) → i < m → Masked i mask → Masked (i + 1) (bit_or mask (1 * 2 ^ on_row words o i % 65536))
  masked-turn i mask h f k =
      let one : 1 * 2 ^ on_row words o i % 65536 ≡ 2 ^ on_row words o i = omega (arith, pow_mono {i = on_row words o i} {j = 8} (omega arith)) in
      rw (one, bit-or, bit-power, or_assoc, row_more i k h) (f k)

-- ---- a deed, by its number

module _ (failure : ℕ) (memory : List Fact) (nine : List ℕ) (b : Buffer) (d : ℕ) (ns : List Named) where
  pub done-modify : d ≡ 0 → done failure memory nine b (deed_of d ns) ≡ modified ns nine b
  unfolding done
  done-modify e = rw (eq-eqb d 0 e)

  pub done-request : (d ≡ 0 → ⊥) → d < 64 → done failure memory nine b (deed_of d ns) ≡ retrieved failure (retrieve memory d ns nine)
  unfolding done
  done-request e h = rw (ne_eqb d 0 e, lt-ltb d 64 h)

  pub done-clear : (d ≡ 0 → ⊥) → 64 ≤ d → done failure memory nine b (deed_of d ns) ≡ nil_after 0
  unfolding done
  done-clear e h = rw (ne_eqb d 0 e, le-ltb d 64 h)
