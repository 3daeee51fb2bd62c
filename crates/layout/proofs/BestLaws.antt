-- A loop that looks for the highest of the rows that pass: the best so far, and then the rows that are left, give the best of all.
use Prim.Native.Nat.{ℕ, ◌+◌, ◌-◌, ◌≤◌, ◌<◌}
use mathlib.Core.Path.{◌≡◌, refl, sym, ap}
use mathlib.Core.Bool.{Bool, true, false}
use mathlib.Core.List.{◌∷◌}
use mathlib.Core.Option.{Option, none}
use native.Mathlib.Omega.{arith}
use Rattle.meaning.specs.Base.{keep, admit}
use Rattle.meaning.specs.Highest.{better, highest}
use Rattle.layout.specs.Rows.{rows_in}
use Rattle.layout.proofs.RowLaws.{rows_left}

module _ {A : Type 0} (below : A → A → Bool) (p : A → Bool) (thing : ℕ → A) (n : ℕ) where
  unfoldable pub best_from : ℕ → Option A → Option A
  best_from i best = highest below best (keep p (rows_in thing i (n - i)))

  pub best-start : best_from 0 none ≡ highest below none (keep p (rows_in thing 0 n))
  unfolding best_from
  best-start = let e : n - 0 ≡ n = omega arith in rw e

  pub best-end : (i : ℕ) (best : Option A) → n ≤ i → best_from i best ≡ best
  unfolding best_from rows_in
  best-end i best h = let e : n - i ≡ 0 = omega arith in rw e

  module _ (i : ℕ) (best : Option A) (h : i < n) where
    first : rows_in thing i (n - i) ≡ thing i ∷ rows_in thing (i + 1) (n - (i + 1))
    first = let e : n - i + i ≡ n = omega arith in rows_left thing i n h (n - i) e

    pub best-skip : p (thing i) ≡ false → best_from (i + 1) best ≡ best_from i best
    unfolding best_from
    best-skip e = rw (first, e)

    pub best-turn : p (thing i) ≡ true → best_from (i + 1) (better below best (thing i)) ≡ best_from i best
    unfolding best_from
    best-turn e = rw (first, e)

    -- what is no better than the best so far, whether it passes or not
    pub best-kept : better below best (thing i) ≡ best → best_from (i + 1) best ≡ best_from i best
    unfolding best_from
    best-kept e =
        rw first
        (elim (p (thing i)) as
        (λ t. highest below best (keep p (rows_in thing (i + 1) (n - (i + 1)))) ≡ highest below best (admit t (thing i) (keep p (rows_in thing (i + 1) (n - (i + 1)))))) [
          | true ↦ ap (λ (b : Option A). highest below b (keep p (rows_in thing (i + 1) (n - (i + 1))))) (sym e)
          | false ↦ refl
        ])
