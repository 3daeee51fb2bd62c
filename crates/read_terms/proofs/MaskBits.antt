-- A bit of the mask, as the code tests it, names its slot or does not; the slots that are passed and that are left.
use Prim.Native.Nat.{ℕ, zero, suc, ◌+◌, ◌-◌, ◌/◌, ◌%◌, ◌^◌, ◌≤◌, ◌<◌}
use mathlib.Core.Path.{◌≡◌, refl, sym, ap, ◌∙◌}
use mathlib.Core.Bool.{Bool, true, false}
use mathlib.Core.List.{List, [], ◌∷◌, ◌++◌, append-nil}
use native.Mathlib.Omega.{arith}
use lib.Bits.{bit_and, and_mask}
use lib.Pow.{shr-shr}
use lib.Dec.{eqb}
use lib.ListN.{length, drop_of_length-le}
use borrow.Author.Tests.{eq-eqb, ne_eqb}
use Rattle.meaning.specs.Base.{keep, admit, up_from, bit}
use Rattle.meaning.specs.Image.{names, slots_in}
use Rattle.laws.specs.BaseLaws.{by-lt}

pub bit_is : (m b : ℕ) → bit m b ≡ eqb (m / 2 ^ b % 2) 1
bit_is m zero = let e : m % 2 ≡ m / 1 % 2 = omega arith in ap (λ (n : ℕ). eqb n 1) e
bit_is m (suc b) =
    let e : 1 + b ≡ suc b = omega arith in
    bit_is (m / 2) b ∙ ap (λ (n : ℕ). eqb (n % 2) 1) (shr-shr m 1 b ∙ ap (λ (k : ℕ). m / 2 ^ k) e)

pub names-on : (m b : ℕ) → bit_and (m / 2 ^ (7 - b)) 1 ≡ 1 → names m b ≡ true
names-on m b z = bit_is m (7 - b) ∙ eq-eqb (m / 2 ^ (7 - b) % 2) 1 (sym (and_mask (m / 2 ^ (7 - b)) 1) ∙ z)

pub names-off : (m b : ℕ) → (bit_and (m / 2 ^ (7 - b)) 1 ≡ 1 → ⊥) → names m b ≡ false
names-off m b z = bit_is m (7 - b) ∙ ne_eqb (m / 2 ^ (7 - b) % 2) 1 (λ y. z (and_mask (m / 2 ^ (7 - b)) 1 ∙ y))

-- ---- named slots from b on, and below b

unfoldable pub rest : ℕ → ℕ → List ℕ
rest m b = keep (names m) (up_from b (8 - b))

unfoldable pub below : ℕ → ℕ → List ℕ
below m b = keep (names m) (up_from 0 b)

pub rest-start : (m : ℕ) → rest m 0 ≡ slots_in m
unfolding rest slots_in
rest-start m = refl

pub rest-on : (m b : ℕ) → b < 8 → names m b ≡ true → rest m b ≡ b ∷ rest m (b + 1)
unfolding rest
rest-on m b h e = let g : 8 - b ≡ suc (8 - (b + 1)) = omega arith in rw (g, e)

pub rest-off : (m b : ℕ) → b < 8 → names m b ≡ false → rest m b ≡ rest m (b + 1)
unfolding rest
rest-off m b h e = let g : 8 - b ≡ suc (8 - (b + 1)) = omega arith in rw (g, e)

pub rest_end : (m b : ℕ) → 8 ≤ b → rest m b ≡ []
unfolding rest
rest_end m b h = let e : 8 - b ≡ 0 = omega arith in rw e

-- no slot is left if as many as none are
pub none_left : (m b : ℕ) → length (rest m b) ≡ 0 → rest m b ≡ []
none_left m b e = drop_of_length-le (rest m b) {i = 0} (omega arith)

-- a slot that is left is below eight
pub some_left : (m b : ℕ) → 0 < length (rest m b) → b < 8
some_left m b h = by-lt b 8 (λ l. l) (λ l. let none : length (rest m b) ≡ 0 = ap length (rest_end m b l) in absurd (omega arith))

up_from-more : (i n : ℕ) → up_from i (n + 1) ≡ up_from i n ++ ((i + n) ∷ [])
up_from-more i zero = let e : i + 0 ≡ i = omega arith in rw e
up_from-more i (suc n) =
    let e : suc n + 1 ≡ suc (n + 1) = omega arith in
    let g : i + suc n ≡ i + 1 + n = omega arith in
    rw (e, g) (ap (λ (l : List ℕ). i ∷ l) (up_from-more (i + 1) n))

keep_append : (p : ℕ → Bool) (xs ys : List ℕ) → keep p (xs ++ ys) ≡ keep p xs ++ keep p ys
keep_append p [] ys = refl
keep_append p (x ∷ xs) ys =
    elim (p x) as (λ t. admit t x (keep p (xs ++ ys)) ≡ admit t x (keep p xs) ++ keep p ys) [
      | true ↦ ap (λ (l : List ℕ). x ∷ l) (keep_append p xs ys)
      | false ↦ keep_append p xs ys
    ]

below-cons : (m b : ℕ) (u : Bool) → names m b ≡ u → below m (b + 1) ≡ below m b ++ admit u b []
unfolding below
below-cons m b u e = let z : 0 + b ≡ b = omega arith in rw (up_from-more 0 b, z, keep_append, e)

pub below_on : (m b : ℕ) → names m b ≡ true → below m (b + 1) ≡ below m b ++ (b ∷ [])
below_on m b e = below-cons m b true e

pub below-off : (m b : ℕ) → names m b ≡ false → below m (b + 1) ≡ below m b
below-off m b e = below-cons m b false e ∙ append-nil (below m b)

-- once none is left, all named slots are passed
pub below_all : (m b : ℕ) → b ≤ 8 → rest m b ≡ [] → below m b ≡ slots_in m
unfolding below rest slots_in
below_all m b h e =
    let s : up_from 0 8 ≡ up_from 0 b ++ up_from b (8 - b) = ap (up_from 0) (split_at b h) ∙ up_from-split 0 b (8 - b) ∙ ap (λ (k : ℕ). up_from 0 b ++ up_from k (8 - b)) (zero_left b) in
    let p : ℕ → Bool = names m in
    sym (append-nil (keep p (up_from 0 b))) ∙ ap (λ (l : List ℕ). keep p (up_from 0 b) ++ l) (sym e) ∙ sym (keep_append p (up_from 0 b) (up_from b (8 - b))) ∙ ap (keep p) (sym s)
  where
    split_at : (k : ℕ) → k ≤ 8 → 8 ≡ k + (8 - k)
    split_at k l = omega arith

    zero_left : (k : ℕ) → 0 + k ≡ k
    zero_left k = omega arith

    up_from-split : (i k n : ℕ) → up_from i (k + n) ≡ up_from i k ++ up_from (i + k) n
    up_from-split i zero n = let e : 0 + n ≡ n = omega arith in let g : i + 0 ≡ i = omega arith in rw (e, g)
    up_from-split i (suc k) n =
        let e : suc k + n ≡ suc (k + n) = omega arith in
        let g : i + suc k ≡ i + 1 + k = omega arith in
        rw (e, g) (ap (λ (l : List ℕ). i ∷ l) (up_from-split (i + 1) k n))
