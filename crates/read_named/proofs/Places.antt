-- The places of a number: of an `or`, of a power of 2; a number by its places.
use Prim.Native.Nat.{ℕ, zero, suc, ◌+◌, ◌-◌, ◌*◌, ◌/◌, ◌%◌, ◌^◌, ◌<◌}
use mathlib.Core.Path.{◌≡◌, refl, sym, ap, ap₂, ◌∙◌}
use mathlib.Core.Bool.{Bool, true, false, ◌&&◌, ◌||◌}
use native.Mathlib.Omega.{arith}
use native.Mathlib.Nat.{pow-suc}
use native.Mathlib.Numerals.{add-one}
use lib.Bits.{bit_or, or_zero_l, or_mod, or_shr}
use lib.Pow.{pow_pos, mod-pow-add}
use lib.Dec.{eqb, eqb-zero-suc, eqb-suc-zero, eqb-suc-suc}
use borrow.Author.Tests.{eqb-true, eqb-false, eq-eqb, ne_eqb}
use Rattle.meaning.specs.Base.{every, up_from, bit}
use Rattle.laws.specs.BaseLaws.{bit-zero}

-- ---- one place more

last_or : (x y : ℕ) → x < 2 → y < 2 → eqb (bit_or x y) 1 ≡ (eqb x 1 || eqb y 1)
last_or zero y h g = ap (λ (n : ℕ). eqb n 1) (or_zero_l y)
last_or (suc zero) zero h g = refl
last_or (suc zero) (suc zero) h g = refl
last_or (suc zero) (suc (suc y)) h g = absurd (omega arith)
last_or (suc (suc x)) y h g = absurd (omega arith)

pub bit-or : (m n b : ℕ) → bit (bit_or m n) b ≡ (bit m b || bit n b)
bit-or m n zero = ap (λ (x : ℕ). eqb x 1) (or_mod m n 1) ∙ last_or (m % 2) (n % 2) (omega arith) (omega arith)
bit-or m n (suc b) = ap (λ (x : ℕ). bit x b) (or_shr m n 1) ∙ bit-or (m / 2) (n / 2) b

pub bit-power : (k b : ℕ) → bit (2 ^ k) b ≡ eqb b k
bit-power zero zero = refl
bit-power zero (suc b) = bit-zero b ∙ sym (eqb-suc-zero b)
bit-power (suc k) zero = let e : 2 ^ k * 2 % 2 ≡ 0 = omega arith in rw (pow-suc 2 k, e) (sym (eqb-zero-suc k))
bit-power (suc k) (suc b) = let e : 2 ^ k * 2 / 2 ≡ 2 ^ k = omega arith in rw (pow-suc 2 k, e) (bit-power k b ∙ sym (eqb-suc-suc b k))

pub eqb_swap : (a b : ℕ) → eqb a b ≡ eqb b a
eqb_swap a b =
    (elim (eqb a b) as (λ t. eqb a b ≡ t → t ≡ eqb b a) [
      | true ↦ λ e. sym (eq-eqb b a (sym (eqb-true a b e)))
      | false ↦ λ e. sym (ne_eqb b a (λ z. eqb-false a b e (sym z)))
    ]) refl

-- ---- a number by its places

-- the places from 1 on are those of the half
module _ (m : ℕ) where
  bit-half : (b : ℕ) → bit m (b + 1) ≡ bit (m / 2) b
  bit-half b = rw (add-one b)

  all-half : (i n : ℕ) → every (bit m) (up_from (i + 1) n) ≡ every (bit (m / 2)) (up_from i n)
  all-half i zero = refl
  all-half i (suc n) = ap₂ (λ (x : Bool) (t : Bool). x && t) (bit-half i) (all-half (i + 1) n)

ones_and : (p x y : ℕ) → 0 < p → y < 2 → eqb (x * 2 + y) (p * 2 - 1) ≡ (eqb y 1 && eqb x (p - 1))
ones_and p x zero h g = ne_eqb (x * 2 + 0) (p * 2 - 1) (λ e. omega arith)
ones_and p x (suc zero) h g =
    (elim (eqb x (p - 1)) as (λ t. eqb x (p - 1) ≡ t → eqb (x * 2 + 1) (p * 2 - 1) ≡ t) [
      | true ↦ λ e. let z : x ≡ p - 1 = eqb-true x (p - 1) e in eq-eqb (x * 2 + 1) (p * 2 - 1) (omega arith)
      | false ↦ λ e. ne_eqb (x * 2 + 1) (p * 2 - 1) (λ z. eqb-false x (p - 1) e (omega arith))
    ]) refl
ones_and p x (suc (suc y)) h g = absurd (omega arith)

-- the last k places are all ones
pub ones-all : (k m : ℕ) → eqb (m % 2 ^ k) (2 ^ k - 1) ≡ every (bit m) (up_from 0 k)
ones-all zero m = let e : m % 1 ≡ 0 = omega arith in rw e
ones-all (suc k) m =
    let s : k + 1 ≡ suc k = omega arith in
    let e : m % 2 ^ suc k ≡ m / 2 % 2 ^ k * 2 + m % 2 = ap (λ (j : ℕ). m % 2 ^ j) (sym s) ∙ mod-pow-add m k 1 in
    rw (e, pow-suc 2 k)
    (ones_and (2 ^ k) (m / 2 % 2 ^ k) (m % 2) (pow_pos k) (omega arith)
    ∙ ap (λ (t : Bool). eqb (m % 2) 1 && t) (ones-all k (m / 2) ∙ sym (all-half m 0 k)))
