-- Laws of tests over rows: parts of rows, a loop that leaves at the first row that fails, lists one after the other.
use Prim.Native.Nat.{ℕ, zero, suc, ◌+◌, ◌-◌, ◌≤◌, ◌<◌}
use mathlib.Core.Path.{◌≡◌, refl, ap, ◌∙◌}
use mathlib.Core.Bool.{Bool, true, false, ◌&&◌}
use mathlib.Core.List.{List, [], ◌∷◌, ◌++◌}
use native.Mathlib.Omega.{arith}
use lib.ListN.{drop}
use borrow.Author.Tests.{le-leb, lt-leb}
use Rattle.std.specs.List.{list_all, range_with_len}
use Rattle.meaning.specs.Base.{every}
use Rattle.layout.specs.Rows.{rows_in}
use Rattle.layout.proofs.RowLaws.{rows_left}

-- ---- parts of rows

module _ {A : Type 0} where
  pub rows_drop : (f : ℕ → A) (i n m : ℕ) → drop m (rows_in f i n) ≡ rows_in f (i + m) (n - m)
  unfolding rows_in
  rows_drop f i n zero =
      let e : i + 0 ≡ i = omega arith in
      let g : n - 0 ≡ n = omega arith in
      rw (e, g)
  rows_drop f i zero (suc m) = let g : 0 - suc m ≡ 0 = omega arith in rw g
  rows_drop f i (suc n) (suc m) =
      let e : i + suc m ≡ i + 1 + m = omega arith in
      let g : suc n - suc m ≡ n - m = omega arith in
      rw (e, g) (rows_drop f (i + 1) n m)

  pub rows-shift : (f : ℕ → A) (o i n : ℕ) → rows_in (λ b. f (o + b)) i n ≡ rows_in f (o + i) n
  unfolding rows_in
  rows-shift f o i zero = refl
  rows-shift f o i (suc n) =
      let e : o + (i + 1) ≡ o + i + 1 = omega arith in
      ap (λ (l : List A). f (o + i) ∷ l) (rows-shift f o (i + 1) n ∙ ap (λ (j : ℕ). rows_in f j n) e)

  pub rows_split : (f : ℕ → A) (i m n : ℕ) → rows_in f i (m + n) ≡ rows_in f i m ++ rows_in f (i + m) n
  unfolding rows_in
  rows_split f i zero n =
      let e : i + 0 ≡ i = omega arith in
      let g : 0 + n ≡ n = omega arith in
      rw (e, g)
  rows_split f i (suc m) n =
      let e : i + suc m ≡ i + 1 + m = omega arith in
      let g : suc m + n ≡ suc (m + n) = omega arith in
      rw (e, g) (ap (λ (l : List A). f i ∷ l) (rows_split f (i + 1) m n))

-- ---- a loop over rows from i to below `end`, left at the first that fails

module _ {A : Type 0} (p : A → Bool) (f : ℕ → A) (i end : ℕ) where
  left : i < end → rows_in f i (end - i) ≡ f i ∷ rows_in f (i + 1) (end - (i + 1))
  left h = rows_left f i end h (end - i) (omega arith)

  pub all-kept : i < end → p (f i) ≡ true → every p (rows_in f (i + 1) (end - (i + 1))) ≡ every p (rows_in f i (end - i))
  all-kept h e = rw (left h, e)

  pub all-broken : i < end → p (f i) ≡ false → false ≡ every p (rows_in f i (end - i))
  all-broken h e = rw (left h, e)

  pub all_done : end ≤ i → true ≡ every p (rows_in f i (end - i))
  unfolding rows_in
  all_done h = let g : end - i ≡ 0 = omega arith in rw g

-- those, and what a test of two numbers says
pub ruleset walk = (all-kept, all-broken, all_done, le-leb, lt-leb)

-- ---- the same over the numbers of the rows

pub all-numbered : {A : Type 0} (p : A → Bool) (f : ℕ → A) (i n : ℕ) → list_all (λ k. p (f k)) (range_with_len i n) ≡ every p (rows_in f i n)
unfolding rows_in
all-numbered p f i zero = refl
all-numbered p f i (suc n) = ap (λ (t : Bool). p (f i) && t) (all-numbered p f (i + 1) n)

-- ---- lists one after the other

pub all_join : {A : Type 0} (p : A → Bool) (xs ys : List A) → every p (xs ++ ys) ≡ (every p xs && every p ys)
all_join p [] ys = refl
all_join p (x ∷ xs) ys =
    elim (p x) as (λ t. (t && every p (xs ++ ys)) ≡ ((t && every p xs) && every p ys)) [
      | true ↦ all_join p xs ys
      | false ↦ refl
    ]
