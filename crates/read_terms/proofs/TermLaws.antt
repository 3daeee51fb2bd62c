-- The loop over the terms: what was read stands at its slots, and what is left is read from here.
use Rattle.std.specs.Prelude.{if◌then◌else◌}
use Prim.Native.Nat.{ℕ, zero, suc, ◌+◌, ◌-◌, ◌%◌, ◌^◌, ◌≤◌, ◌<◌}
use mathlib.Core.Path.{◌≡◌, refl, sym, ap, ap₂, ◌∙◌}
use mathlib.Core.Bool.{Bool, true, false, not}
use mathlib.Core.List.{List, [], ◌∷◌, ◌++◌, map, append-nil, append_assoc}
use native.Mathlib.Omega.{arith}
use lib.ListN.{length, set, take}
use lib.Seq.{get_or-set_same, get_or-set_other}
use lib.Dec.{eqb, ltb}
use borrow.Author.Tests.{ltb-false, le-leb}
use Rattle.meaning.specs.Numbers.{finer, bad_mask, bad_variable}
use Rattle.meaning.specs.Base.{keep, admit, up_from}
use Rattle.meaning.specs.Bits.{field_at}
use Rattle.meaning.specs.Model.{Named, symbol, variable}
use Rattle.meaning.specs.Read.{Read, read_refused, read_got, follow, field, must}
use Rattle.meaning.specs.Image.{names, slots_in, terms, term_of, a_term, a_mask, masked}
use Rattle.layout.specs.Walks.{mapped, in_range}
use Rattle.layout.specs.Rows.{word_term, named_at, named_by, masked_in}
use Rattle.layout.proofs.RowLaws.{masked_row}
use Rattle.read_terms.proofs.MaskBits.{rest, below, rest-start, rest-on, rest-off, below_on, below-off, below_all}

-- a term stored at b changes none below it
below-same : (p : ℕ → Bool) (xs : List ℕ) (b t i n : ℕ) → i + n ≤ b → map (named_at (set xs b t)) (keep p (up_from i n)) ≡ map (named_at xs) (keep p (up_from i n))
below-same p xs b t i zero h = refl
below-same p xs b t i (suc n) h =
    let ne : (i ≡ b → ⊥) = λ e. omega arith in
    elim (p i) as (λ u. map (named_at (set xs b t)) (admit u i (keep p (up_from (i + 1) n))) ≡ map (named_at xs) (admit u i (keep p (up_from (i + 1) n)))) [
      | true ↦ ap₂ (λ (v : ℕ) (l : List Named). record { slot = i; term = word_term v } ∷ l) (get_or-set_other xs b i t 0 ne) (below-same p xs b t (i + 1) n (omega arith))
      | false ↦ below-same p xs b t (i + 1) n (omega arith)
    ]

passed-set : (m : ℕ) (xs : List ℕ) (b t : ℕ) → map (named_at (set xs b t)) (below m b) ≡ map (named_at xs) (below m b)
unfolding below
passed-set m xs b t = below-same (names m) xs b t 0 b (omega arith)

map_last : {A B : Type 0} (f : A → B) (xs : List A) (x : A) → map f (xs ++ (x ∷ [])) ≡ map f xs ++ (f x ∷ [])
map_last f [] x = refl
map_last {A} {B} f (y ∷ xs) x = ap (λ (l : List B). f y ∷ l) (map_last f xs x)

passed_on : (m : ℕ) (xs : List ℕ) (b t : ℕ) → names m b ≡ true → b < length xs
    → map (named_at (set xs b t)) (below m (b + 1)) ≡ map (named_at xs) (below m b) ++ (record { slot = b; term = word_term t } ∷ [])
passed_on m xs b t e h = rw (below_on m b e, map_last, passed-set m xs b t, get_or-set_same xs b t 0 h)

-- a term that keeps its rule, as a word and as the definition has it
word-term : (variables t : ℕ) → variables ≤ 8 → t < 4096 + variables → word_term t ≡ term_of t
word-term variables t h g =
    (elim (ltb t 4096) as (λ u. ltb t 4096 ≡ u → (if u then symbol t else variable (t % 8)) ≡ (if u then symbol t else variable (t - 4096))) [
      | true ↦ λ e. refl
      | false ↦ λ e. let l : 4096 ≤ t = ltb-false t 4096 e in ap variable (omega arith)
    ]) refl

-- a term is read as a field below an end
term-range : (variables : ℕ) (s : List ℕ) (p : ℕ) → field 13 (must bad_variable (in_range 0 (4096 + variables))) s p ≡ field 13 (must bad_variable (a_term variables)) s p
unfolding field
term-range variables s p = rw (le-leb 0 (field_at s p 13) (omega arith))

-- ---- the loop over slots: what was passed, and what is left to read from here

unfoldable pub on_to : ℕ → ℕ → List ℕ → List ℕ → ℕ → ℕ → Read (List Named)
on_to m variables s xs b at = mapped (λ ns. map (named_at xs) (below m b) ++ ns) (terms finer variables (rest m b) s at)

module _ (m variables : ℕ) (s : List ℕ) where
  pub on-start : (xs : List ℕ) (at : ℕ) → on_to m variables s xs 0 at ≡ terms finer variables (slots_in m) s at
  unfolding on_to below
  on-start xs at = rw (rest-start m) (go (terms finer variables (slots_in m) s at))
    where
      go : (r : Read (List Named)) → mapped (λ ns. [] ++ ns) r ≡ r
      go (read_refused x y) = refl
      go (read_got ns z) = refl

  -- no term is left
  pub on-end : (xs : List ℕ) (b at : ℕ) → b ≤ 8 → rest m b ≡ [] → read_got (named_by m xs) at ≡ on_to m variables s xs b at
  unfolding on_to terms
  on-end xs b at h e = rw (e, below_all m b h e) (ap (λ (l : List Named). read_got l at) (sym (append-nil (named_by m xs))))

  module _ (xs : List ℕ) (b at : ℕ) (h : b < 8) where
    -- a slot that is not named is passed
    pub on-skip : names m b ≡ false → on_to m variables s xs (b + 1) at ≡ on_to m variables s xs b at
    unfolding on_to
    on-skip e = rw (below-off m b e, rest-off m b h e)

    module _ (e : names m b ≡ true) where
      pub on-bad : (x y : ℕ) → read_refused x y ≡ field 13 (must bad_variable (in_range 0 (4096 + variables))) s at → read_refused x y ≡ on_to m variables s xs b at
      unfolding on_to terms
      on-bad x y g = rw (rest-on m b h e, ← (g ∙ term-range variables s at))

      pub on-turn : (t q : ℕ) → variables ≤ 8 → length xs ≡ 8 → t < 4096 + variables → read_got t q ≡ field 13 (must bad_variable (in_range 0 (4096 + variables))) s at
          → on_to m variables s (set xs b t) (b + 1) q ≡ on_to m variables s xs b at
      unfolding on_to terms
      on-turn t q hn hl ht g =
          rw (rest-on m b h e, ← (g ∙ term-range variables s at), passed_on m xs b t e (omega arith), word-term variables t hn ht) (go (terms finer variables (rest m (b + 1)) s q))
        where
          go : (r : Read (List Named))
              → mapped (λ ns. (map (named_at xs) (below m b) ++ (record { slot = b; term = term_of t } ∷ [])) ++ ns) r
              ≡ mapped (λ ns. map (named_at xs) (below m b) ++ ns) (follow r (λ ns z. read_got (record { slot = b; term = term_of t } ∷ ns) z))
          go (read_refused x y) = refl
          go (read_got ns z) = ap (λ (l : List Named). read_got l z) (append_assoc (map (named_at xs) (below m b)) (record { slot = b; term = term_of t } ∷ []) ns)

-- ---- a mask and its terms

mask-rule : (t r : Bool) (n : ℕ) → r ≡ not t → (if r then n else 0) ≡ (if t then 0 else n)
mask-rule true r n e = rw e
mask-rule false r n e = rw e

-- what the code finds of a mask is what its rule says
pub mask-judged : (slots m : ℕ) (r : Bool) → r ≡ not (eqb (m % 2 ^ (8 - slots)) 0) → (if r then bad_mask else 0) ≡ must bad_mask (a_mask slots) m
mask-judged slots m r e = mask-rule (eqb (m % 2 ^ (8 - slots)) 0) r bad_mask e

module _ (variables slots : ℕ) (s : List ℕ) (p : ℕ) where
  pub masked-bad : (x y : ℕ) → read_refused x y ≡ field 8 (must bad_mask (a_mask slots)) s p → read_refused x y ≡ masked finer variables slots s p
  unfolding masked
  masked-bad x y e = rw (← e)

  pub masked_on : (m q : ℕ) → read_got m q ≡ field 8 (must bad_mask (a_mask slots)) s p → terms finer variables (slots_in m) s q ≡ masked finer variables slots s p
  unfolding masked
  masked_on m q e = rw (← e)

-- ---- a row whose third word is a mask and whose last eight were lent for its terms: what it says

pub lent_row : (row slots : List ℕ) (m : ℕ) → length row ≡ 11 → masked_in (take 3 (set row 2 m) ++ slots) 0 ≡ named_by m slots
lent_row [] slots m e = absurd (omega arith)
lent_row (x ∷ []) slots m e = absurd (omega arith)
lent_row (x ∷ y ∷ []) slots m e = absurd (omega arith)
lent_row (x ∷ y ∷ z ∷ row) slots m e = masked_row x y m slots
