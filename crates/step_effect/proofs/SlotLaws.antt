-- The slots of one buffer, written one by one: all other words stay.
use Prim.Native.Nat.{ℕ, zero, suc, ◌+◌, ◌-◌, ◌*◌, ◌≤◌, ◌<◌}
use mathlib.Core.Path.{◌≡◌, refl, sym, ap, ◌∙◌}
use mathlib.Core.Bool.{true, false}
use mathlib.Core.List.{List, ◌∷◌, map}
use native.Mathlib.Omega.{arith}
use lib.Dec.{eqb}
use lib.ListN.{length, get_or, set, length-set}
use lib.Seq.{sets, length-sets, get_or-drop, get_or-set_same, get_or-set_other}
use borrow.Rule.Slice.PartMut.{put_mid}
use Rattle.meaning.specs.Image.{names}
use Rattle.meaning.specs.Retrieval.{value_of}
use Rattle.meaning.specs.Fire.{put}
use Rattle.layout.specs.Rows.{rows_in, named_in, masked_in, word_term}
use Rattle.layout.specs.StateWords.{buffer_in}
use Rattle.laws.specs.PartLaws.{part, part-long, part-get}
use Rattle.layout.proofs.WordLaws.{lent-sets, sets_below, sets-at, sets-drop}
use Rattle.layout.proofs.RowLaws.{rows_same}
use Rattle.read_terms.proofs.MaskBits.{rest, rest-start, rest-on, rest-off, rest_end}
use Rattle.step_wait.specs.Remade.{Remade}
use Rattle.step_wait.proofs.DelayLaws.{chunk_kept}
use Rattle.step_effect.specs.Deeds.{chunk_in, modified}

-- no word but the eight slots of buffer k has changed
pub record OnlySlots (w w' : List ℕ) (k : ℕ) : Type 0 where
  pub size : length w' ≡ length w
  pub before : (j : ℕ) → j < 11 * k + 1 → get_or w' j 0 ≡ get_or w j 0
  pub after : (j : ℕ) → 11 * k + 9 ≤ j → get_or w' j 0 ≡ get_or w j 0

pub only_none : (w : List ℕ) (k : ℕ) → OnlySlots w w k
only_none w k = record { size = refl; before = λ j h. refl; after = λ j h. refl }

pub only-more : {w w' : List ℕ} {k : ℕ} → OnlySlots w w' k → (b v : ℕ) → b < 8 → OnlySlots w (set w' (11 * k + 1 + b) v) k
only-more {w} {w'} {k} o b v h =
    record {
      size = length-set w' (11 * k + 1 + b) v ∙ o.size;
      before = λ j l. get_or-set_other w' (11 * k + 1 + b) j v 0 (λ e. omega arith) ∙ o.before j l;
      after = λ j l. get_or-set_other w' (11 * k + 1 + b) j v 0 (λ e. omega arith) ∙ o.after j l;
    }

-- ---- the words after the slots

-- another delay and another flag, and the chunk as it was
ends_set : (w : List ℕ) (k d e : ℕ) → 11 * k + 11 ≤ length w
    → Remade w (set (set w (11 * k + 9) d) (11 * k + 10) e) k (record { isa = (buffer_in w k).isa; slots = (buffer_in w k).slots; delay = d; error = eqb e 1 })
ends_set w k d e h =
    record {
      made =
          chunk_kept w (set u (11 * k + 10) e) k (λ j l. other (11 * k + j) (λ z. omega arith) (λ z. omega arith))
          ∙ rw (get_or-set_other u (11 * k + 10) (11 * k + 9) e 0 (λ z. omega arith), get_or-set_same w (11 * k + 9) d 0 (omega arith), flag);
      below = λ j l. other j (λ z. omega arith) (λ z. omega arith);
      above = λ j l. other j (λ z. omega arith) (λ z. omega arith);
    }
  where
    u : List ℕ
    u = set w (11 * k + 9) d

    flag : get_or (set u (11 * k + 10) e) (11 * k + 10) 0 ≡ e
    flag = get_or-set_same u (11 * k + 10) e 0 (omega (arith, length-set w (11 * k + 9) d))

    other : (j : ℕ) → (j ≡ 11 * k + 9 → ⊥) → (j ≡ 11 * k + 10 → ⊥) → get_or (set u (11 * k + 10) e) j 0 ≡ get_or w j 0
    other j n m = get_or-set_other u (11 * k + 10) j e 0 m ∙ get_or-set_other w (11 * k + 9) j d 0 n

-- the delay and the flag last: the type is as it was, the slots are xs
pub only_end : {w w' : List ℕ} {k : ℕ} → OnlySlots w w' k → (d e : ℕ) (xs : List ℕ) → 11 * k + 11 ≤ length w → (buffer_in w' k).slots ≡ xs
    → Remade w (set (set w' (11 * k + 9) d) (11 * k + 10) e) k (record { isa = (buffer_in w k).isa; slots = xs; delay = d; error = eqb e 1 })
only_end {w} {w'} {k} o d e xs h q =
    let m = ends_set w' k d e (omega (arith, o.size)) in
    record {
      made = m.made ∙ rw (o.before (11 * k) (omega arith), q);
      below = λ j l. m.below j l ∙ o.before j (omega arith);
      above = λ j l. m.above j l ∙ o.after j (omega arith);
    }

-- ---- slots that are copied from other words

-- the slots of buffer k of w are the words of `from` at `at`
abbrev pub Copied : List ℕ → ℕ → List ℕ → ℕ → Type 0
Copied w k from at = (j : ℕ) → j < 8 → get_or w (11 * k + 1 + j) 0 ≡ get_or from (at + j) 0

-- eight words in the place of the slots
module _ (w : List ℕ) (k : ℕ) (from : List ℕ) (at : ℕ) (own : List ℕ) (room : 11 * k + 11 ≤ length w) (there : at + 8 ≤ length from)
    (is : own ≡ part at 8 from) where
  abbrev filled : List ℕ
  filled = put_mid (11 * k + 1) (11 * k + 9 - (11 * k + 1)) w own

  eight : length own ≡ 8
  eight = ap length is ∙ part-long at 8 from there

  put-is : filled ≡ sets w (11 * k + 1) own
  put-is =
      let e : 11 * k + 9 - (11 * k + 1) ≡ 11 * k + 1 + 8 - (11 * k + 1) = omega arith in
      ap (λ (n : ℕ). put_mid (11 * k + 1) n w own) e ∙ lent-sets (11 * k + 1) 8 w own (omega arith) eight

  pub only_copied : OnlySlots w filled k
  only_copied =
      let size = eight in
      rw put-is (record {
        size = length-sets w (11 * k + 1) own;
        before = λ j l. sets_below w (11 * k + 1) own j l;
        after = λ j l. let z : j + 0 ≡ j = omega arith in
            ap (λ (i : ℕ). get_or (sets w (11 * k + 1) own) i 0) (sym z) ∙ sym (get_or-drop j (sets w (11 * k + 1) own) 0 0)
            ∙ ap (λ (l : List ℕ). get_or l 0 0) (sets-drop j w (11 * k + 1) own (omega arith)) ∙ get_or-drop j w 0 0 ∙ ap (λ (i : ℕ). get_or w i 0) z;
      })

  pub all_copied : Copied filled k from at
  all_copied j l =
      let size = eight in
      ap (λ (v : List ℕ). get_or v (11 * k + 1 + j) 0) put-is ∙ sets-at w (11 * k + 1) own j (omega arith) (omega arith)
      ∙ ap (λ (v : List ℕ). get_or v j 0) is ∙ part-get at 8 from j l

-- the type, the delay and the flag last
pub copied-end : {w w' : List ℕ} {k : ℕ} → OnlySlots w w' k → (isa : ℕ) (from : List ℕ) (at delay flag : ℕ) → 11 * k + 11 ≤ length w → Copied w' k from at
    → Remade w (set (set (set w' (11 * k) isa) (11 * k + 9) delay) (11 * k + 10) flag) k (chunk_in isa from at delay flag)
copied-end {w} {w'} {k} o isa from at delay flag h g =
    record {
      made =
          m.made
          ∙ rw (get_or-set_same w' (11 * k) isa 0 (omega (arith, o.size)))
          (ap (λ (xs : List ℕ). record { isa = isa; slots = xs; delay = delay; error = eqb flag 1 })
          (rows_same (λ j. get_or u (11 * k + 1 + j) 0) (λ j. get_or from (at + j) 0) 0 8 (λ j x y. other (11 * k + 1 + j) (λ e. omega arith) ∙ g j (omega arith))));
      below = λ j x. m.below j x ∙ other j (λ e. omega arith) ∙ o.before j (omega arith);
      above = λ j x. m.above j x ∙ other j (λ e. omega arith) ∙ o.after j (omega arith);
    }
  where
    u : List ℕ
    u = set w' (11 * k) isa

    other : (j : ℕ) → (j ≡ 11 * k → ⊥) → get_or u j 0 ≡ get_or w' j 0
    other j n = get_or-set_other w' (11 * k) j isa 0 n

    m : Remade u (set (set u (11 * k + 9) delay) (11 * k + 10) flag) k (record { isa = get_or u (11 * k) 0; slots = (buffer_in u k).slots; delay = delay; error = eqb flag 1 })
    m = ends_set u k delay flag (omega (arith, o.size, length-set w' (11 * k) isa))

-- ---- slots that a mask names

rows-set : (f g : ℕ → ℕ) (i n b v : ℕ) → b < n → g (i + b) ≡ v → ((j : ℕ) → (j ≡ i + b → ⊥) → g j ≡ f j) → rows_in g i n ≡ set (rows_in f i n) b v
unfolding rows_in
rows-set f g i zero b v h e o = absurd (omega arith)
rows-set f g i (suc n) zero v h e o =
    let z : i + 0 ≡ i = omega arith in
    rw (← e, z) (ap (λ (l : List ℕ). g i ∷ l) (rows_same g f (i + 1) n (λ j x y. o j (λ q. omega arith))))
rows-set f g i (suc n) (suc b) v h e o =
    let z : i + 1 + b ≡ i + suc b = omega arith in
    rw (o i (λ q. omega arith)) (ap (λ (l : List ℕ). f i ∷ l) (rows-set f g (i + 1) n b v (omega arith) (ap g z ∙ e) (λ j n. o j (λ q. n (omega arith)))))

slots_set : (w : List ℕ) (k b v : ℕ) → b < 8 → 11 * k + 11 ≤ length w → (buffer_in (set w (11 * k + 1 + b) v) k).slots ≡ set (buffer_in w k).slots b v
slots_set w k b v h l =
    let z : 11 * k + 1 + (0 + b) ≡ 11 * k + 1 + b = omega arith in
    rows-set (λ j. get_or w (11 * k + 1 + j) 0) (λ j. get_or (set w (11 * k + 1 + b) v) (11 * k + 1 + j) 0) 0 8 b v h (rw z (get_or-set_same w (11 * k + 1 + b) v 0 (omega arith)))
    (λ j n. get_or-set_other w (11 * k + 1 + b) (11 * k + 1 + j) v 0 (λ e. n (omega arith)))

-- what the slots become when those that the action at q names from b on are put
unfoldable pub put_from : List ℕ → ℕ → List ℕ → ℕ → List ℕ → List ℕ
put_from words q nine b slots = put (map (named_in words q) (rest (get_or words (q + 2) 0) b)) nine slots

-- the words w, of which the slots of buffer k that are named below b are put, are w'
pub record Putting (words : List ℕ) (q : ℕ) (nine w w' : List ℕ) (k b : ℕ) : Type 0 where
  pub only : OnlySlots w w' k
  pub slots : put_from words q nine b (buffer_in w' k).slots ≡ put (masked_in words q) nine (buffer_in w k).slots

pub putting-start : (words : List ℕ) (q : ℕ) (nine w : List ℕ) (k : ℕ) → Putting words q nine w w k 0
unfolding put_from
putting-start words q nine w k = record { only = only_none w k; slots = rw (rest-start (get_or words (q + 2) 0)) }

module _ {words : List ℕ} {q : ℕ} {nine w w' : List ℕ} {k b : ℕ} (p : Putting words q nine w w' k b) where
  module _ (h : b < 8) where
    pub putting-on : (v : ℕ) → names (get_or words (q + 2) 0) b ≡ true → v ≡ value_of nine (word_term (get_or words (q + 3 + b) 0)) → 11 * k + 11 ≤ length w
        → Putting words q nine w (set w' (11 * k + 1 + b) v) k (b + 1)
    unfolding put_from put
    putting-on v e g l =
        record {
          only = only-more p.only b v h;
          slots =
              rw (slots_set w' k b v h (omega (arith, p.only.size)), g)
              (ap (λ (bs : List ℕ). put (map (named_in words q) bs) nine (buffer_in w' k).slots) (sym (rest-on (get_or words (q + 2) 0) b h e)) ∙ p.slots);
        }

    pub putting-off : names (get_or words (q + 2) 0) b ≡ false → Putting words q nine w w' k (b + 1)
    unfolding put_from
    putting-off e =
        record {
          only = p.only;
          slots = ap (λ (bs : List ℕ). put (map (named_in words q) bs) nine (buffer_in w' k).slots) (sym (rest-off (get_or words (q + 2) 0) b h e)) ∙ p.slots;
        }

  pub putting-end : 8 ≤ b → 11 * k + 11 ≤ length w → Remade w (set (set w' (11 * k + 9) 0) (11 * k + 10) 0) k (modified (masked_in words q) nine (buffer_in w k))
  unfolding put_from put
  putting-end h l =
      only_end p.only 0 0 (put (masked_in words q) nine (buffer_in w k).slots) l
      (ap (λ (bs : List ℕ). put (map (named_in words q) bs) nine (buffer_in w' k).slots) (sym (rest_end (get_or words (q + 2) 0) b h)) ∙ p.slots)
