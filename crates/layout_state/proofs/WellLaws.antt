-- Laws of a state judged in its words: a buffer by its type, two stretches and its flag.
use Prim.Native.Nat.{ℕ, zero, suc, ◌+◌, ◌-◌, ◌*◌, ◌<◌}
use mathlib.Core.Path.{◌≡◌, refl, sym, ap, ap₂, ◌∙◌}
use mathlib.Core.Bool.{true, false}
use mathlib.Core.List.{List, ◌∷◌}
use native.Mathlib.Omega.{arith}
use lib.Dec.{leb, eqb}
use lib.ListN.{length, get_or, drop}
use borrow.Author.Tests.{lt-ltb, lt-leb, ne_eqb}
use Rattle.meaning.specs.Base.{every}
use Rattle.meaning.specs.State.{slot_count, flag_fits, well_buffer, is_nil, is_unused}
use Rattle.layout.specs.Rows.{rows_in}
use Rattle.layout.specs.StateWords.{buffer_in}
use Rattle.layout_state.specs.Words.{stretch, rest_unused}
use Rattle.layout_state.proofs.AllLaws.{rows_drop, rows-shift}

-- ---- small tests

pub most-zero : (v : ℕ) → leb v 0 ≡ eqb v 0
most-zero zero = refl
most-zero (suc v) = lt-leb (suc v) 0 (omega arith) ∙ sym (ne_eqb (suc v) 0 (λ e. omega arith))

-- ---- one buffer in words

module _ (w : List ℕ) (k : ℕ) where
  slots-from : (m : ℕ) → stretch w (11 * k + 1 + m) (11 * k + 9) ≡ drop m (buffer_in w k).slots
  slots-from m =
      let e : 11 * k + 1 + m ≡ 11 * k + 1 + (0 + m) = omega arith in
      let n : 11 * k + 9 - (11 * k + 1 + m) ≡ 8 - m = omega arith in
      ap₂ (rows_in (λ j. get_or w j 0)) e n ∙ sym (rows-shift (λ j. get_or w j 0) (11 * k + 1) (0 + m) (8 - m)) ∙ sym (rows_drop (λ b. get_or w (11 * k + 1 + b) 0) 0 8 m)

  slots-all : stretch w (11 * k + 1) (11 * k + 9) ≡ (buffer_in w k).slots
  slots-all = let e : 11 * k + 1 ≡ 11 * k + 1 + 0 = omega arith in ap (λ (j : ℕ). stretch w j (11 * k + 9)) e ∙ slots-from 0

  -- a buffer holds nil where its first nine words are 0
  nine_words : stretch w (11 * k) (11 * k + 9) ≡ get_or w (11 * k) 0 ∷ (buffer_in w k).slots
  unfolding rows_in
  nine_words =
      let n : 11 * k + 9 - 11 * k ≡ 9 = omega arith in
      let m : 11 * k + 9 - (11 * k + 1) ≡ 8 = omega arith in
      ap (rows_in (λ j. get_or w j 0) (11 * k)) n ∙ ap (λ (l : List ℕ). get_or w (11 * k) 0 ∷ l) (sym (ap (rows_in (λ j. get_or w j 0) (11 * k + 1)) m) ∙ slots-all)

  pub nil-words : every (λ v. leb v 0) (stretch w (11 * k) (11 * k + 9)) ≡ is_nil (buffer_in w k)
  nil-words = simp most-zero (ap (every (λ v. eqb v 0)) nine_words)

  module _ (types : List ℕ) where
    module _ (h : get_or w (11 * k) 0 < length types) where
      pub well-values : every (λ v. leb v 4095) (stretch w (11 * k + 1) (11 * k + 9)) ≡ false → false ≡ well_buffer types (buffer_in w k)
      well-values e = rw (lt-ltb (get_or w (11 * k) 0) (length types) h, sym (ap (every (λ v. leb v 4095)) slots-all) ∙ e)

      module _ (small : every (λ v. leb v 4095) (stretch w (11 * k + 1) (11 * k + 9)) ≡ true) where
        past : every (λ v. leb v 0) (stretch w (11 * k + 1 + slot_count types (get_or w (11 * k) 0)) (11 * k + 9))
            ≡ every (λ v. eqb v 0) (drop (slot_count types (get_or w (11 * k) 0)) (buffer_in w k).slots)
        past = simp most-zero (ap (every (λ v. eqb v 0)) (slots-from (slot_count types (get_or w (11 * k) 0))))

        pub well-past : every (λ v. leb v 0) (stretch w (11 * k + 1 + slot_count types (get_or w (11 * k) 0)) (11 * k + 9)) ≡ false → false ≡ well_buffer types (buffer_in w k)
        well-past e = rw (lt-ltb (get_or w (11 * k) 0) (length types) h, sym (ap (every (λ v. leb v 4095)) slots-all) ∙ small, sym past ∙ e)

        pub well-flag : every (λ v. leb v 0) (stretch w (11 * k + 1 + slot_count types (get_or w (11 * k) 0)) (11 * k + 9)) ≡ true
            → flag_fits (buffer_in w k) ≡ well_buffer types (buffer_in w k)
        well-flag e = rw (lt-ltb (get_or w (11 * k) 0) (length types) h, sym (ap (every (λ v. leb v 4095)) slots-all) ∙ small, sym past ∙ e)

-- ---- the buffers past a count

pub rest-is : (w : List ℕ) (buffers : ℕ) → every is_unused (rows_in (buffer_in w) buffers (8 - buffers)) ≡ rest_unused buffers w
rest-is w buffers =
    let z : 0 + buffers ≡ buffers = omega arith in
    ap (every is_unused) (ap (λ (j : ℕ). rows_in (buffer_in w) j (8 - buffers)) (sym z) ∙ sym (rows_drop (buffer_in w) 0 8 buffers))
