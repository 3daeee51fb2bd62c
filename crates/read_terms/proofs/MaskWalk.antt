-- The walk over the slots that a mask names, as the code goes: the bit of the slot at hand is worth 128, and where nothing is left of the mask no slot is.
use Prim.Native.Nat.{ℕ, zero, suc, ◌+◌, ◌-◌, ◌*◌, ◌/◌, ◌%◌, ◌^◌, ◌≤◌, ◌<◌}
use mathlib.Core.Path.{◌≡◌, refl, sym, ap, ◌∙◌}
use mathlib.Core.Bool.{true, false}
use mathlib.Core.List.{[]}
use native.Mathlib.Nat.{pow-suc, mul_assoc}
use native.Mathlib.Numerals.{add-one}
use native.Mathlib.Omega.{arith}
use lib.Pow.{shl-shr, shr-shr}
use borrow.Author.Tests.{eq-eqb, ne_eqb}
use Rattle.meaning.specs.Image.{names}
use Rattle.laws.specs.BaseLaws.{by-lt}
use Rattle.read_terms.proofs.MaskBits.{bit_is, rest, rest-off, rest_end}

-- r is what is left of mask m at slot b; nothing is after the last slot
pub record Walk (m b r : ℕ) : Type 0 where
  pub within : b ≤ 8
  pub small : r ≤ 255 * (8 - b)
  pub value : r ≡ m * 2 ^ b % 256

-- what is left follows from the slot
walk_at : (m b : ℕ) → b ≤ 8 → Walk m b (m * 2 ^ b % 256)
walk_at m b h =
    record {
      within = h;
      small = by-lt b 8 (λ l. omega arith) (λ l. let e : b ≡ 8 = omega arith in rw e (omega arith));
      value = refl;
    }

pub walk_start : (m : ℕ) → Walk m 0 (m % 256)
walk_start m = let e : m * 1 ≡ m = omega arith in rw (ap (λ (n : ℕ). n % 256) e) at (walk_at m 0 (omega arith))

module _ {m b r : ℕ} (w : Walk m b r) where
  pub walk-next : b < 8 → Walk m (b + 1) (r * 2 % 256)
  walk-next h =
      let d : m * 2 ^ (b + 1) ≡ m * 2 ^ b * 2 = rw (add-one b, pow-suc 2 b) (sym (mul_assoc m (2 ^ b) 2)) in
      let e : m * 2 ^ (b + 1) % 256 ≡ r * 2 % 256 = omega (arith, w.value) in
      rw e at (walk_at m (b + 1) (omega arith))

  -- the bit that is worth 128 is the one of slot b
  bit_at : b < 8 → m * 2 ^ b / 128 ≡ m / 2 ^ (7 - b)
  bit_at h =
      let e : b + (7 - b) ≡ 7 = omega arith in
      ap (λ (k : ℕ). m * 2 ^ b / 2 ^ k) (sym e) ∙ sym (shr-shr (m * 2 ^ b) b (7 - b)) ∙ ap (λ (n : ℕ). n / 2 ^ (7 - b)) (shl-shr m b)

  pub walk-on : b < 8 → 128 ≤ r → names m b ≡ true
  walk-on h z = bit_is m (7 - b) ∙ eq-eqb (m / 2 ^ (7 - b) % 2) 1 (omega (arith, bit_at h, w.value))

  pub walk-off : b < 8 → r < 128 → names m b ≡ false
  walk-off h z = bit_is m (7 - b) ∙ ne_eqb (m / 2 ^ (7 - b) % 2) 1 (λ y. omega (arith, bit_at h, w.value))

-- where nothing is left of the mask, it names no slot any more
pub walk_end : {m b r : ℕ} → Walk m b r → r ≡ 0 → rest m b ≡ []
walk_end {m} {b} {r} w z = go (8 - b) b r w (omega arith) z
  where
    go : (n b r : ℕ) → Walk m b r → n ≡ 8 - b → r ≡ 0 → rest m b ≡ []
    go zero b r w e z = rest_end m b (omega arith)
    go (suc n) b r w e z = rest-off m b (omega arith) (walk-off w (omega arith) (omega arith)) ∙ go n (b + 1) (r * 2 % 256) (walk-next w (omega arith)) (omega arith) (omega arith)
