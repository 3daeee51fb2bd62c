-- The mark as a loop over the eight buffers makes it: what is marked so far, and the weight times what is left, is the whole.
use Rattle.std.specs.Prelude.{if◌then◌else◌}
use Prim.Native.Nat.{ℕ, zero, suc, ◌+◌, ◌-◌, ◌*◌, ◌%◌, ◌^◌, ◌≤◌, ◌<◌}
use mathlib.Core.Path.{◌≡◌}
use mathlib.Core.Bool.{Bool, true, false}
use mathlib.Core.List.{map}
use native.Mathlib.Nat.{mul-zero, mul-one, mul-add, mul_assoc, pow-suc}
use native.Mathlib.Numerals.{add-one}
use native.Mathlib.Omega.{arith}
use lib.Pow.{pow_mono}
use Rattle.meaning.specs.Base.{up_from, weigh}

weigh-lt : (f : ℕ → Bool) (i n : ℕ) → weigh (map f (up_from i n)) < 2 ^ n
weigh-lt f i zero = omega arith
weigh-lt f i (suc n) =
    let h : weigh (map f (up_from (i + 1) n)) < 2 ^ n = weigh-lt f (i + 1) n in
    rw (pow-suc 2 n)
    (elim (f i) as (λ t. (if t then 1 else 0) + 2 * weigh (map f (up_from (i + 1) n)) < 2 ^ n * 2) [
      | true ↦ omega arith
      | false ↦ omega arith
    ])

-- the weight of a buffer as the code shifts it
pub weight-is : (k : ℕ) → k < 8 → 1 * 2 ^ k % 65536 ≡ 2 ^ k
weight-is k h = omega (arith, pow_mono {i = k} {j = 8} (omega arith))

module _ (f : ℕ → Bool) where
  unfoldable pub marking : ℕ → ℕ → ℕ
  marking k mark = mark + 2 ^ k * weigh (map f (up_from k (8 - k)))

  pub marking-start : marking 0 0 ≡ weigh (map f (up_from 0 8))
  unfolding marking
  marking-start = omega arith

  pub marking-end : (k mark : ℕ) → 8 ≤ k → mark ≡ marking k mark
  unfolding marking
  marking-end k mark h = let e : 8 - k ≡ 0 = omega arith in rw (e, mul-zero) (omega arith)

  module _ (k mark : ℕ) (h : k < 8) where
    left : 2 ^ k * weigh (map f (up_from k (8 - k))) ≡ 2 ^ k * (if f k then 1 else 0) + 2 ^ (k + 1) * weigh (map f (up_from (k + 1) (8 - (k + 1))))
    left = let e : 8 - k ≡ suc (8 - (k + 1)) = omega arith in rw (e, add-one k, pow-suc 2 k, mul-add, mul_assoc)

    -- buffer k is marked
    pub marking-on : f k ≡ true → marking (k + 1) (mark + 2 ^ k) ≡ marking k mark
    unfolding marking
    marking-on e = rw (left, e, mul-one) (omega arith)

    -- buffer k is not marked
    pub marking-off : f k ≡ false → marking (k + 1) mark ≡ marking k mark
    unfolding marking
    marking-off e = rw (left, e, mul-zero) (omega arith)

    -- the weight of a buffer that is marked still fits
    pub marking-fits : f k ≡ true → marking k mark ≡ weigh (map f (up_from 0 8)) → mark + 2 ^ k < 256
    unfolding marking
    marking-fits e g =
        let z : 2 ^ k * weigh (map f (up_from k (8 - k))) ≡ 2 ^ k * 1 + 2 ^ (k + 1) * weigh (map f (up_from (k + 1) (8 - (k + 1)))) = rw e at left in
        omega (arith, mul-one (2 ^ k), weigh-lt f 0 8)
