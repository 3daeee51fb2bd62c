-- Loops that read n things and store each as it is read: what is left, read from here and stored from here on, makes the whole.
use Prim.Native.Nat.{ℕ, zero, suc, ◌+◌, ◌-◌, ◌≤◌, ◌<◌}
use mathlib.Core.Path.{◌≡◌, refl, ap, ◌∙◌}
use mathlib.Core.Bool.{true}
use mathlib.Core.List.{List, ◌∷◌, ◌++◌, map}
use native.Mathlib.Omega.{arith}
use native.Mathlib.Numerals.{add-one}
use lib.ListN.{length, set, drop, replicate, length-replicate}
use lib.Seq.{sets, sets-eq}
use Rattle.meaning.specs.Read.{Read, read_refused, read_got, Reader, follow, times}
use Rattle.laws.specs.ReadLaws.{times-all}
use Rattle.layout.specs.Walks.{mapped}

-- two makings that agree on n things make the same of n things that are read
pub made-same : {A C : Type 0} (p : Reader A) (image : List ℕ) (n at : ℕ) (g h : List A → C) → ((xs : List A) → length xs ≡ n → g xs ≡ h xs)
    → mapped g (times n p image at) ≡ mapped h (times n p image at)
made-same {A} {C} p image n at g h same = go (times n p image at) refl
  where
    go : (r : Read (List A)) → times n p image at ≡ r → mapped g r ≡ mapped h r
    go (read_refused a b) e = refl
    go (read_got xs q) e = ap (λ (x : C). read_got x q) (same xs (times-all p (λ x. true) (λ image at a next e. refl) n image at xs q e).1)

-- things as `f` makes them, stored from o on in a list of which `make` makes what is wanted
module _ {A B C : Type 0} (f : A → B) (make : List B → C) (p : Reader A) (image : List ℕ) where
  unfoldable pub stored : List B → ℕ → ℕ → ℕ → Read C
  stored l o n at = mapped (λ xs. make (sets l o (map f xs))) (times n p image at)

  pub stored-start : (l : List B) (o n at : ℕ) (h : List A → C) → ((xs : List A) → length xs ≡ n → make (sets l o (map f xs)) ≡ h xs)
      → stored l o (n - 0) at ≡ mapped h (times n p image at)
  unfolding stored
  stored-start l o n at h same = let e : n - 0 ≡ n = omega arith in rw e (made-same p image n at (λ xs. make (sets l o (map f xs))) h same)

  pub stored-end : (l : List B) (o n i at : ℕ) → n ≤ i → read_got (make l) at ≡ stored l o (n - i) at
  unfolding stored times
  stored-end l o n i at h = let e : n - i ≡ 0 = omega arith in rw e

  module _ (l : List B) (o n i at : ℕ) (h : i < n) where
    pub stored-bad : (x y : ℕ) → read_refused x y ≡ p image at → read_refused x y ≡ stored l o (n - i) at
    unfolding stored times
    stored-bad x y e = let k : n - i ≡ suc (n - (i + 1)) = omega arith in rw (k, ← e)

    pub stored-turn : (x : A) (y : B) (q : ℕ) → y ≡ f x → read_got x q ≡ p image at → stored (set l o y) (o + 1) (n - (i + 1)) q ≡ stored l o (n - i) at
    unfolding stored times
    stored-turn x y q g e = let k : n - i ≡ suc (n - (i + 1)) = omega arith in rw (k, g, ← e, add-one o) (go (times (n - (i + 1)) p image q))
      where
        go : (r : Read (List A)) → mapped (λ xs. make (sets (set l o (f x)) (suc o) (map f xs))) r ≡ mapped (λ xs. make (sets l o (map f xs))) (follow r (λ xs z. read_got (x ∷ xs) z))
        go (read_refused a b) = refl
        go (read_got xs z) = refl

-- ---- a list that was all alike

drop-replicate : {A : Type 0} (n m : ℕ) (d : A) → drop m (replicate n d) ≡ replicate (n - m) d
drop-replicate n zero d = let e : n - 0 ≡ n = omega arith in rw e
drop-replicate zero (suc m) d = let e : 0 - suc m ≡ 0 = omega arith in rw e
drop-replicate (suc n) (suc m) d = let e : suc n - suc m ≡ n - m = omega arith in rw e (drop-replicate n m d)

pub sets-fresh : {A : Type 0} (m : ℕ) (d : A) (xs : List A) → length xs ≤ m → sets (replicate m d) 0 xs ≡ xs ++ replicate (m - length xs) d
sets-fresh {A} m d xs h =
    let e : 0 + length xs ≡ length xs = omega arith in
    sets-eq xs (replicate m d) 0 (omega (arith, length-replicate m d)) ∙ ap (λ (k : ℕ). xs ++ drop k (replicate m d)) e ∙ ap (λ (l : List A). xs ++ l) (drop-replicate m (length xs) d)
