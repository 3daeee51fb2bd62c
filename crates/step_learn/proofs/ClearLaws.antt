-- The buffers that are cleared: the mask that tells them, and the chunks that those below a place give.
use Rattle.std.specs.Prelude.{if◌then◌else◌}
use Prim.Native.Nat.{ℕ, zero, suc, ◌+◌, ◌-◌, ◌*◌, ◌%◌, ◌^◌, ◌≤◌, ◌<◌}
use mathlib.Core.Path.{◌≡◌, refl, sym, ap, ◌∙◌}
use mathlib.Core.Bool.{Bool, true, false, ◌&&◌, ◌||◌, not, or-false, or-true}
use mathlib.Core.List.{List, [], ◌∷◌, ◌++◌, append-nil}
use mathlib.Core.Option.{Option, some}
use native.Mathlib.Decide.{ℕ_discrete}
use native.Mathlib.Omega.{arith}
use borrow.Author.Tests.{eq-eqb, ne_eqb, lt-ltb, le-ltb, lt-leb, le-leb}
use lib.Bits.{bit_or, bit_xor}
use lib.Dec.{eqb, leb}
use lib.ListN.{length, get_or}
use lib.Pow.{pow_mono}
use Rattle.meaning.specs.declared.Buffer.{Buffer}
use Rattle.meaning.specs.Base.{bit, admit}
use Rattle.meaning.specs.Model.{Named, Deed, deed_modify, deed_request, Action, Chunk}
use Rattle.meaning.specs.Fire.{deed_on}
use Rattle.meaning.specs.Learning.{is_clear, chunk_of, cleared}
use Rattle.layout.specs.Rows.{rows_in, masked_in, deed_of, action_in, actions_in}
use Rattle.layout.specs.StateWords.{buffer_in, buffers_in}
use Rattle.layout.proofs.RowLaws.{rows_left, rows_more, rows-length}
use Rattle.laws.specs.BaseLaws.{by-lt, no_true, bit-zero}
use Rattle.match_sets.proofs.BitLaws.{bit-with, bit-without, but-none, but-all}
use Rattle.step_learn.specs.Clears.{ClearMask, gives, given}

-- ---- a place set or unset

module _ (mask b : ℕ) (h : b < 8) where
  one : 1 * 2 ^ b % 65536 ≡ 1 * 2 ^ b % 2 ^ 64
  one = omega (arith, pow_mono {i = b} {j = 8} (omega arith))

  pub place_set : (j : ℕ) → bit (bit_or mask (1 * 2 ^ b % 65536)) j ≡ (if eqb j b then true else bit mask j)
  place_set j =
      rw (one, bit-with mask b (omega arith) j)
      (elim (eqb j b) as (λ t. (bit mask j || t) ≡ (if t then true else bit mask j)) [ true ↦ or-true (bit mask j) | false ↦ or-false (bit mask j) ])

  pub place-unset : (j : ℕ) → bit (bit_xor (bit_or mask (1 * 2 ^ b % 65536)) (1 * 2 ^ b % 65536)) j ≡ (if eqb j b then false else bit mask j)
  place-unset j =
      rw (one, bit-without mask b (omega arith) j)
      (elim (eqb j b) as (λ t. (bit mask j && not t) ≡ (if t then false else bit mask j)) [ true ↦ but-all (bit mask j) | false ↦ but-none (bit mask j) ])

pub ruleset placing = (place_set, place-unset)

-- the deed of a row is a clear from 64 on
clear-row : (d : ℕ) (ns : List Named) → is_clear (some (deed_of d ns)) ≡ leb 64 d
clear-row d ns =
    by-lt d 64
    (λ h. rw (lt-leb 64 d h, lt-ltb d 64 h) (elim (eqb d 0) as (λ t. is_clear (some (if t then deed_modify ns else (deed_request d ns))) ≡ false) [ true ↦ refl | false ↦ refl ]))
    (λ h. rw (le-leb 64 d h, le-ltb d 64 h, ne_eqb d 0 (λ e. omega arith)))

-- ---- the mask, in a loop over the rows from the last to the first

module _ (words : List ℕ) (o m : ℕ) where
  -- the deed on buffer k in the rows from i on
  unfoldable pub deed_from : ℕ → ℕ → Option Deed
  deed_from i k = deed_on (rows_in (λ j. action_in words (o + 11 * j)) i (m - i)) k

  abbrev pub Masked : ℕ → ℕ → Type 0
  Masked i mask = (k : ℕ) → bit mask k ≡ is_clear (deed_from i k)

  pub masked-start : Masked m 0
  unfolding deed_from deed_on rows_in
  masked-start k = let e : m - m ≡ 0 = omega arith in rw (e, bit-zero k)

  pub masked-end : (i mask : ℕ) → i ≡ 0 → Masked i mask → ClearMask (actions_in words o m) mask
  unfolding deed_from
  masked-end i mask z f k = let e : m - i ≡ m = omega arith in f k ∙ rw (e, z)

  module _ (i : ℕ) (h : i < m) where
    abbrev on : ℕ
    on = get_or words (o + 11 * i) 0 % 8

    abbrev deed : ℕ
    deed = get_or words (o + 11 * i + 1) 0

    first : (k : ℕ) → deed_from i k ≡ (if eqb on k then some (action_in words (o + 11 * i)).deed else deed_from (i + 1) k)
    unfolding deed_from deed_on
    first k = let n : m - i + i ≡ m = omega arith in rw (rows_left (λ j. action_in words (o + 11 * j)) i m h (m - i) n)

    pub masked-turn : (mask mask' : ℕ) → Masked (i + 1) mask → ((j : ℕ) → bit mask' j ≡ (if eqb j on then leb 64 deed else bit mask j)) → Masked i mask'
    masked-turn mask mask' f g k =
        g k
        ∙ elim (ℕ_discrete on k) [
          | yes e ↦ rw (first k, eq-eqb k on (sym e), eq-eqb on k e) (sym (clear-row deed (masked_in words (o + 11 * i))))
          | no e ↦ rw (first k, ne_eqb k on (λ s. e (sym s)), ne_eqb on k e) (f k)
        ]

-- a buffer that a row is on is one of eight
pub clear-low : (words : List ℕ) (o i n k : ℕ) → is_clear (deed_on (rows_in (λ j. action_in words (o + 11 * j)) i n) k) ≡ true → k < 8
unfolding deed_on rows_in
clear-low words o i zero k e = absurd (no_true (sym e))
clear-low words o i (suc n) k e =
    elim (ℕ_discrete (get_or words (o + 11 * i) 0 % 8) k) [
      | yes on ↦ omega arith
      | no off ↦ clear-low words o (i + 1) n k (rw (ne_eqb (get_or words (o + 11 * i) 0 % 8) k off) at e)
    ]

-- ---- the chunks of the buffers below a place

module _ (as' : List Action) where
  cleared-append : (i : ℕ) (bs cs : List Buffer) → cleared as' i (bs ++ cs) ≡ cleared as' i bs ++ cleared as' (i + length bs) cs
  unfolding cleared
  cleared-append i [] cs = let e : i + 0 ≡ i = omega arith in rw e
  cleared-append i (b ∷ bs) cs =
      let e : i + suc (length bs) ≡ i + 1 + length bs = omega arith in
      rw (e, cleared-append (i + 1) bs cs)
      (elim (is_clear (deed_on as' i) && gives b) as
      (λ t. admit t (chunk_of b) (cleared as' (i + 1) bs ++ cleared as' (i + 1 + length bs) cs) ≡ admit t (chunk_of b) (cleared as' (i + 1) bs) ++ cleared as' (i + 1 + length bs) cs) [
        | true ↦ refl
        | false ↦ refl
      ])

  module _ (state : List ℕ) where
    unfoldable pub cleared_to : ℕ → List Chunk
    cleared_to at = cleared as' 0 (rows_in (buffer_in state) 0 at)

    pub cleared-start : cleared_to 0 ≡ []
    unfolding cleared_to cleared rows_in
    cleared-start = refl

    pub cleared-end : cleared_to 8 ≡ cleared as' 0 (buffers_in state)
    unfolding cleared_to
    cleared-end = refl

    more : (at : ℕ) → cleared_to (at + 1) ≡ cleared_to at ++ admit (is_clear (deed_on as' at) && gives (buffer_in state at)) (chunk_of (buffer_in state at)) []
    unfolding cleared_to cleared
    more at =
        let z : 0 + at ≡ at = omega arith in
        rw (rows_more (buffer_in state) 0 at, z, cleared-append 0 (rows_in (buffer_in state) 0 at) (buffer_in state at ∷ []), rows-length (buffer_in state) 0 at, z)

    pub cleared-turn : (at : ℕ) → is_clear (deed_on as' at) ≡ true → cleared_to (at + 1) ≡ cleared_to at ++ given (buffer_in state at)
    cleared-turn at e = more at ∙ ap (λ (t : Bool). cleared_to at ++ admit (t && gives (buffer_in state at)) (chunk_of (buffer_in state at)) []) e

    pub cleared-skip : (at : ℕ) → is_clear (deed_on as' at) ≡ false → cleared_to (at + 1) ≡ cleared_to at
    cleared-skip at e =
        more at ∙ ap (λ (t : Bool). cleared_to at ++ admit (t && gives (buffer_in state at)) (chunk_of (buffer_in state at)) []) e ∙ append-nil (cleared_to at)

    -- over buffers that are not cleared
    past : (at d : ℕ) → ((j : ℕ) → at ≤ j → j < at + d → is_clear (deed_on as' j) ≡ false) → cleared_to (at + d) ≡ cleared_to at
    past at zero off = let e : at + 0 ≡ at = omega arith in ap cleared_to e
    past at (suc d) off =
        let e : at + suc d ≡ at + d + 1 = omega arith in
        ap cleared_to e ∙ cleared-skip (at + d) (off (at + d) (omega arith) (omega arith)) ∙ past at d (λ j a b. off j a (omega arith))

    pub cleared-past : (at to : ℕ) → at ≤ to → ((j : ℕ) → at ≤ j → j < to → is_clear (deed_on as' j) ≡ false) → cleared_to to ≡ cleared_to at
    cleared-past at to h off =
        let e : at + (to - at) ≡ to = omega arith in
        ap cleared_to (sym e) ∙ past at (to - at) (λ j a b. off j a (omega arith))
