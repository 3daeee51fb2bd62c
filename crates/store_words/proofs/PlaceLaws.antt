-- Laws of a place of a store: its words on their way to a row and back, and what it is judged by.
use Prim.Native.Nat.{ℕ, zero, suc, ◌+◌, ◌-◌, ◌*◌, ◌≤◌, ◌<◌}
use mathlib.Core.Path.{◌≡◌, refl, sym, ap, ap₂, ◌∙◌}
use mathlib.Core.Bool.{and-true, true, false}
use mathlib.Core.List.{List, ◌∷◌, ◌++◌, map}
use native.Mathlib.Omega.{arith}
use lib.Dec.{leb, eqb}
use lib.ListN.{length, get_or, set, take, drop, length-set}
use lib.Seq.{sets, sets-eq, drop-drop}
use Rattle.std.proofs.Common.{append_assoc}
use borrow.Author.Tests.{le-ltb, lt-ltb}
use borrow.Rule.Slice.PartMut.{put_mid}
use Rattle.meaning.specs.Base.{every, up_from}
use Rattle.meaning.specs.State.{slot_count}
use Rattle.meaning.specs.Store.{place_in, place_words, holdable, store_in}
use Rattle.layout.specs.Rows.{rows_in, fact_in}
use Rattle.layout_state.specs.Words.{stretch}
use Rattle.layout_state.proofs.AllLaws.{rows_drop, rows-shift}
use Rattle.layout_state.proofs.WellLaws.{most-zero}
use Rattle.store_words.specs.Rows.{row_words}
use Rattle.store_words.proofs.StoreLaws.{slots-there}

-- ---- slots in a row

-- numbers in a row, each made into something
pub map_row : {A : Type 0} (f : ℕ → A) (i n : ℕ) → map f (up_from i n) ≡ rows_in f i n
unfolding rows_in
map_row f i zero = refl
map_row {A} f i (suc n) = ap (λ (l : List A). f i ∷ l) (map_row f (i + 1) n)

-- eight slots that stand from o on
pub slots-row : (w : List ℕ) (o : ℕ) → map (λ b. get_or w (o + b) 0) (up_from 0 8) ≡ rows_in (λ j. get_or w j 0) o 8
slots-row w o =
    let z : o + 0 ≡ o = omega arith in
    map_row (λ b. get_or w (o + b) 0) 0 8 ∙ rows-shift (λ j. get_or w j 0) o 0 8 ∙ ap (λ (j : ℕ). rows_in (λ j. get_or w j 0) j 8) z

-- the chunks of a store in a row
pub store-row : (w : List ℕ) → store_in w ≡ rows_in (place_in w) 0 (get_or w 0 0)
unfolding store_in
store-row w = map_row (place_in w) 0 (get_or w 0 0)

-- ---- a place on its way to a row, and back

-- eight words of a part that is lent are the slots that stand there
pub part-slots : (w : List ℕ) (o first end : ℕ) → first ≡ o → end ≡ o + 8 → end ≤ length w → take (end - first) (drop first w) ≡ map (λ b. get_or w (o + b) 0) (up_from 0 8)
part-slots w o first end a b h =
    let n : end - first ≡ 8 = omega arith in
    ap₂ (λ (n k : ℕ). take n (drop k w)) n a ∙ sym (slots-there w o (omega arith))

-- words that were copied into a part
put-sets : (w xs : List ℕ) (a k : ℕ) → a + k ≤ length w → length xs ≡ k → put_mid a k w xs ≡ sets w a xs
put-sets w xs a k h n = ap (λ (l : List ℕ). take a w ++ (xs ++ l)) (drop-drop k a w ∙ ap (λ (m : ℕ). drop (a + m) w) (sym n)) ∙ sym (append_assoc (take a w) xs (drop (a + length xs) w)) ∙ sym (sets-eq xs w a (omega arith))

pub row_laid : (tape store : List ℕ) (i o : ℕ) → o + 11 ≤ length tape → 9 * i + 10 ≤ length store → (xs : List ℕ) → xs ≡ take (9 * i + 1 + 9 - (9 * i + 1 + 1)) (drop (9 * i + 1 + 1) store)
    → put_mid (o + 3) (o + 11 - (o + 3)) (set (set (set tape o (get_or store (9 * i + 1) 0)) (o + 1) 0) (o + 2) 50) xs ≡ sets tape o (row_words (place_in store i))
row_laid tape store i o room h xs e =
    let head : List ℕ = set (set (set tape o (get_or store (9 * i + 1) 0)) (o + 1) 0) (o + 2) 50 in
    let long : length head ≡ length tape = simp length-set refl in
    let slots : xs ≡ (place_in store i).slots = e ∙ part-slots store (9 * i + 2) (9 * i + 1 + 1) (9 * i + 1 + 9) (omega arith) (omega arith) (omega arith) in
    let a : o + 1 ≡ suc o = omega arith in
    let b : o + 2 ≡ suc (suc o) = omega arith in
    let d : o + 3 ≡ suc (suc (suc o)) = omega arith in
    put-sets head xs (o + 3) (o + 11 - (o + 3)) (omega arith) (ap length slots ∙ omega arith) ∙ rw (slots, a, b, d)

pub place-laid : (store tape : List ℕ) (i o : ℕ) → 9 * i + 10 ≤ length store → o + 11 ≤ length tape → (xs : List ℕ) → xs ≡ take (o + 11 - (o + 3)) (drop (o + 3) tape)
    → put_mid (9 * i + 1 + 1) (9 * i + 1 + 9 - (9 * i + 1 + 1)) (set store (9 * i + 1) (get_or tape o 0)) xs ≡ sets store (9 * i + 1) (place_words (fact_in tape o).chunk)
place-laid store tape i o room h xs e =
    let head : List ℕ = set store (9 * i + 1) (get_or tape o 0) in
    let long : length head ≡ length store = length-set store (9 * i + 1) (get_or tape o 0) in
    let slots : xs ≡ (fact_in tape o).chunk.slots = e ∙ part-slots tape (o + 3) (o + 3) (o + 11) refl (omega arith) h in
    let a : 9 * i + 1 + 1 ≡ suc (9 * i + 1) = omega arith in
    put-sets head xs (9 * i + 1 + 1) (9 * i + 1 + 9 - (9 * i + 1 + 1)) (omega arith) (ap length slots ∙ omega arith) ∙ rw (slots, a)

-- ---- a place is judged

module _ (w : List ℕ) (i : ℕ) where
  slots-from : (m : ℕ) → stretch w (9 * i + 1 + 1 + m) (9 * i + 1 + 9) ≡ drop m (place_in w i).slots
  slots-from m =
      let e : 9 * i + 1 + 1 + m ≡ 9 * i + 2 + m = omega arith in
      let n : 9 * i + 1 + 9 - (9 * i + 1 + 1 + m) ≡ 8 - m = omega arith in
      ap₂ (rows_in (λ j. get_or w j 0)) e n ∙ sym (rows_drop (λ j. get_or w j 0) (9 * i + 2) 8 m) ∙ ap (drop m) (sym (slots-row w (9 * i + 2)))

  slots-all : stretch w (9 * i + 1 + 1) (9 * i + 1 + 9) ≡ (place_in w i).slots
  slots-all = let e : 9 * i + 1 + 1 ≡ 9 * i + 1 + 1 + 0 = omega arith in ap (λ (j : ℕ). stretch w j (9 * i + 1 + 9)) e ∙ slots-from 0

  module _ (types : List ℕ) where
    pub holds-nil : get_or w (9 * i + 1) 0 ≡ 0 → false ≡ holdable types (place_in w i)
    holds-nil e = rw e

    module _ (some-type : 0 < get_or w (9 * i + 1) 0) where
      pub holds-type : length types ≤ get_or w (9 * i + 1) 0 → false ≡ holdable types (place_in w i)
      holds-type h = rw (lt-ltb 0 (get_or w (9 * i + 1) 0) some-type, le-ltb (get_or w (9 * i + 1) 0) (length types) h)

      module _ (h : get_or w (9 * i + 1) 0 < length types) where
        pub holds-values : every (λ v. leb v 4095) (stretch w (9 * i + 1 + 1) (9 * i + 1 + 9)) ≡ false → false ≡ holdable types (place_in w i)
        holds-values e =
            rw (lt-ltb 0 (get_or w (9 * i + 1) 0) some-type, lt-ltb (get_or w (9 * i + 1) 0) (length types) h, sym (ap (every (λ v. leb v 4095)) slots-all) ∙ e)

        pub holds-past : every (λ v. leb v 4095) (stretch w (9 * i + 1 + 1) (9 * i + 1 + 9)) ≡ true
            → every (λ v. leb v 0) (stretch w (9 * i + 1 + 1 + slot_count types (get_or w (9 * i + 1) 0)) (9 * i + 1 + 9)) ≡ holdable types (place_in w i)
        holds-past e =
            rw (lt-ltb 0 (get_or w (9 * i + 1) 0) some-type, lt-ltb (get_or w (9 * i + 1) 0) (length types) h, sym (ap (every (λ v. leb v 4095)) slots-all) ∙ e)
            (simp most-zero (ap (every (λ v. eqb v 0)) (slots-from (slot_count types (get_or w (9 * i + 1) 0))) ∙ sym (and-true _)))
