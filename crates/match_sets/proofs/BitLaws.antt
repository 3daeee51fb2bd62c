-- The bits of a union, of a difference, of a number shifted, of a power of two; and the zeros below the lowest bit.
use Prim.Native.Nat.{ℕ, zero, suc, ◌+◌, ◌-◌, ◌*◌, ◌/◌, ◌%◌, ◌^◌, ◌≤◌, ◌<◌, max}
use mathlib.Core.Path.{◌≡◌, refl, sym, ap, ap₂, ◌∙◌}
use mathlib.Core.Bool.{Bool, true, false, ◌&&◌, ◌||◌, not}
use native.Mathlib.Nat.{max-le, pow-suc, zero-add, suc-add}
use native.Mathlib.Numerals.{add-one}
use native.Mathlib.Omega.{arith}
use native.Mathlib.Decide.{ℕ_discrete}
use lib.Bits.{bit_and, bit_or, bit_xor, differ, or_step, xor_step, and_le_r}
use lib.Count.{under, count_trailing_zeros}
use lib.Pow.{shr-shr, shr_lt, shl_exact}
use lib.Dec.{eqb}
use borrow.Author.Tests.{eqb-true, eq-eqb, ne_eqb}
use Rattle.meaning.specs.Base.{bit}
use Rattle.laws.specs.BaseLaws.{bit-and, bit-zero, no_true}

-- ---- one digit

abbrev differs : Bool → Bool → Bool
differs true b = not b
differs false b = b

max-bit : (x y : ℕ) → x < 2 → y < 2 → eqb (max x y) 1 ≡ (eqb x 1 || eqb y 1)
max-bit zero zero h g = refl
max-bit zero (suc zero) h g = refl
max-bit zero (suc (suc y)) h g = absurd (omega arith)
max-bit (suc zero) zero h g = refl
max-bit (suc zero) (suc zero) h g = refl
max-bit (suc zero) (suc (suc y)) h g = absurd (omega arith)
max-bit (suc (suc x)) y h g = absurd (omega arith)

differ-bit : (x y : ℕ) → x < 2 → y < 2 → eqb (differ x y) 1 ≡ differs (eqb x 1) (eqb y 1)
differ-bit zero zero h g = refl
differ-bit zero (suc zero) h g = refl
differ-bit zero (suc (suc y)) h g = absurd (omega arith)
differ-bit (suc zero) zero h g = refl
differ-bit (suc zero) (suc zero) h g = refl
differ-bit (suc zero) (suc (suc y)) h g = absurd (omega arith)
differ-bit (suc (suc x)) y h g = absurd (omega arith)

differ-low : (x y : ℕ) → x < 2 → y < 2 → differ x y < 2
differ-low zero y h g = g
differ-low (suc zero) zero h g = h
differ-low (suc zero) (suc y) h g = omega arith
differ-low (suc (suc x)) y h g = absurd (omega arith)

-- ---- bits of two numbers together

pub bit-or : (a b k : ℕ) → bit (bit_or a b) k ≡ (bit a k || bit b k)
bit-or a b zero =
    let low : max (a % 2) (b % 2) ≤ 1 = max-le (omega arith) (omega arith) in
    let e : bit_or a b % 2 ≡ max (a % 2) (b % 2) = rw (or_step a b) (omega arith) in
    rw e (max-bit (a % 2) (b % 2) (omega arith) (omega arith))
bit-or a b (suc k) =
    let low : max (a % 2) (b % 2) ≤ 1 = max-le (omega arith) (omega arith) in
    let e : bit_or a b / 2 ≡ bit_or (a / 2) (b / 2) = rw (or_step a b) (omega arith) in
    rw e (bit-or (a / 2) (b / 2) k)

pub bit-xor : (a b k : ℕ) → bit (bit_xor a b) k ≡ differs (bit a k) (bit b k)
bit-xor a b zero =
    let low : differ (a % 2) (b % 2) < 2 = differ-low (a % 2) (b % 2) (omega arith) (omega arith) in
    let e : bit_xor a b % 2 ≡ differ (a % 2) (b % 2) = rw (xor_step a b) (omega arith) in
    rw e (differ-bit (a % 2) (b % 2) (omega arith) (omega arith))
bit-xor a b (suc k) =
    let low : differ (a % 2) (b % 2) < 2 = differ-low (a % 2) (b % 2) (omega arith) (omega arith) in
    let e : bit_xor a b / 2 ≡ bit_xor (a / 2) (b / 2) = rw (xor_step a b) (omega arith) in
    rw e (bit-xor (a / 2) (b / 2) k)

half : (x k : ℕ) → x < 2 ^ suc k → x / 2 < 2 ^ k
half x k h = shr_lt k 1 (rw (add-one k) h)

-- ---- a power of two has one bit

twice : (i : ℕ) → 2 ^ suc i ≡ 2 ^ i * 2
twice i = pow-suc 2 i

same-suc : (i j : ℕ) → eqb (suc j) (suc i) ≡ eqb j i
same-suc i j = elim (ℕ_discrete j i) [ yes e ↦ eq-eqb (suc j) (suc i) (ap suc e) ∙ sym (eq-eqb j i e) | no e ↦ ne_eqb (suc j) (suc i) (λ q. e (omega arith)) ∙ sym (ne_eqb j i e) ]

pub bit-power : (i j : ℕ) → bit (2 ^ i) j ≡ eqb j i
bit-power zero zero = refl
bit-power zero (suc j) = bit-zero j ∙ sym (ne_eqb (suc j) 0 (λ e. omega arith))
bit-power (suc i) zero =
    let e : 2 ^ suc i % 2 ≡ 0 = rw (twice i) (omega arith) in
    rw e (sym (ne_eqb 0 (suc i) (λ q. omega arith)))
bit-power (suc i) (suc j) =
    let e : 2 ^ suc i / 2 ≡ 2 ^ i = rw (twice i) (omega arith) in
    rw e (bit-power i j ∙ sym (same-suc i j))

-- ---- a number shifted

pub bit-shift : (x i j : ℕ) → bit (x / 2 ^ i) j ≡ bit x (i + j)
bit-shift x zero j = let e : x / 2 ^ 0 ≡ x = omega arith in rw (e, zero-add j)
bit-shift x (suc i) j =
    let e : x / 2 / 2 ^ i ≡ x / 2 ^ suc i = shr-shr x 1 i ∙ ap (λ (k : ℕ). x / 2 ^ k) (omega arith) in
    rw (← e, suc-add i j) (bit-shift (x / 2) i j)

-- a number below 2 to the power i has no bit from i on
pub bit_high : (i x j : ℕ) → x < 2 ^ i → i ≤ j → bit x j ≡ false
bit_high zero x j h l = let e : x ≡ 0 = omega arith in rw e (bit-zero j)
bit_high (suc i) x zero h l = absurd (omega arith)
bit_high (suc i) x (suc j) h l = bit_high i (x / 2) j (half x i h) (omega arith)

-- ---- the lowest bit

-- what `under` gives for a digit 0 and for a digit 1
under-zero : (d t : ℕ) → d ≡ 0 → under d t ≡ suc t
under-zero d t e = rw e

under_one : (d t : ℕ) → d ≡ 1 → under d t ≡ 0
under_one d t e = rw e

-- a number above 0 is odd, or its half is above 0
odd-or-half : {C : Type 0} (x : ℕ) → (x % 2 ≡ 1 → C) → (x % 2 ≡ 0 → C) → C
odd-or-half x f g = elim (ℕ_discrete (x % 2) 1) [ yes e ↦ f e | no e ↦ g (omega arith) ]

pub trailing-low : (k x : ℕ) → x < 2 ^ k → 0 < x → count_trailing_zeros k x < k
unfolding count_trailing_zeros
trailing-low zero x h p = absurd (omega arith)
trailing-low (suc k) x h p =
    odd-or-half x
    (λ e. rw (under_one (x % 2) (count_trailing_zeros k (x / 2)) e) (omega arith))
    (λ e. rw (under-zero (x % 2) (count_trailing_zeros k (x / 2)) e) (omega (arith, trailing-low k (x / 2) (half x k h) (omega arith))))

pub trailing-bit : (k x : ℕ) → x < 2 ^ k → 0 < x → bit x (count_trailing_zeros k x) ≡ true
unfolding count_trailing_zeros
trailing-bit zero x h p = absurd (omega arith)
trailing-bit (suc k) x h p =
    odd-or-half x
    (λ e. rw (under_one (x % 2) (count_trailing_zeros k (x / 2)) e) (eq-eqb (x % 2) 1 e))
    (λ e. rw (under-zero (x % 2) (count_trailing_zeros k (x / 2)) e) (trailing-bit k (x / 2) (half x k h) (omega arith)))

-- a bit of an even number stands in its half
even-bit : (x j t : ℕ) → x % 2 ≡ 0 → j < suc t → ((i : ℕ) → i < t → bit (x / 2) i ≡ false) → bit x j ≡ false
even-bit x zero t e g f = ne_eqb (x % 2) 1 (λ q. omega arith)
even-bit x (suc j) t e g f = f j (omega arith)

pub trailing-none : (k x j : ℕ) → j < count_trailing_zeros k x → bit x j ≡ false
unfolding count_trailing_zeros
trailing-none zero x j h = absurd (omega arith)
trailing-none (suc k) x j h =
    odd-or-half x
    (λ e. let g : j < 0 = rw (under_one (x % 2) (count_trailing_zeros k (x / 2)) e) at h in absurd (omega arith))
    (λ e.
    let g : j < suc (count_trailing_zeros k (x / 2)) = rw (under-zero (x % 2) (count_trailing_zeros k (x / 2)) e) at h in
    even-bit x j (count_trailing_zeros k (x / 2)) e g (λ i l. trailing-none k (x / 2) i l))

-- ---- a number without its lowest bit: the number less 1 has ones below that bit, a zero at it, and the same bits above

same-and : (b : Bool) → (b && b) ≡ (b && not false)
same-and true = refl
same-and false = refl

odd-dropped : (x j : ℕ) → x % 2 ≡ 1 → bit (bit_and x (x - 1)) j ≡ (bit x j && not (eqb j 0))
odd-dropped x zero e =
    let g : bit (x - 1) 0 ≡ false = ne_eqb ((x - 1) % 2) 1 (λ q. omega arith) in
    bit-and x (x - 1) 0 ∙ ap (λ (b : Bool). bit x 0 && b) g
odd-dropped x (suc j) e =
    let g : (x - 1) / 2 ≡ x / 2 = omega arith in
    bit-and x (x - 1) (suc j) ∙ ap (λ (y : ℕ). bit (x / 2) j && bit y j) g ∙ same-and (bit (x / 2) j) ∙ ap (λ (b : Bool). bit (x / 2) j && not b) (sym (ne_eqb (suc j) 0 (λ q. omega arith)))

pub bit-dropped : (x z j : ℕ) → bit x z ≡ true → ((i : ℕ) → i < z → bit x i ≡ false) → bit (bit_and x (x - 1)) j ≡ (bit x j && not (eqb j z))
bit-dropped x zero j b none = odd-dropped x j (eqb-true (x % 2) 1 b)
bit-dropped x (suc z) zero b none =
    bit-and x (x - 1) 0
    ∙ ap (λ (y : Bool). y && bit (x - 1) 0) (none 0 (omega arith))
    ∙ ap (λ (y : Bool). y && not (eqb 0 (suc z))) (sym (none 0 (omega arith)))
bit-dropped x (suc z) (suc j) b none =
    let even : x % 2 ≡ 0 = odd-or-half x (λ e. absurd (no_true (sym (eq-eqb (x % 2) 1 e) ∙ none 0 (omega arith)))) (λ e. e) in
    let g : (x - 1) / 2 ≡ x / 2 - 1 = omega arith in
    let rest : bit (bit_and (x / 2) (x / 2 - 1)) j ≡ (bit (x / 2) j && not (eqb j z)) = bit-dropped (x / 2) z j b (λ i l. none (suc i) (omega arith)) in
    bit-and x (x - 1) (suc j)
    ∙ ap (λ (y : ℕ). bit (x / 2) j && bit y j) g
    ∙ sym (bit-and (x / 2) (x / 2 - 1) j)
    ∙ rest
    ∙ ap (λ (y : Bool). bit (x / 2) j && not y) (sym (same-suc z j))

pub dropped-less : (x : ℕ) → 0 < x → bit_and x (x - 1) < x
dropped-less x h = omega (arith, and_le_r x (x - 1))

-- ---- one bit set, one bit cleared

or_same : (b : Bool) → differs (b || true) true ≡ (b && not true)
or_same true = refl
or_same false = refl

or-other : (b : Bool) → differs (b || false) false ≡ (b && not false)
or-other true = refl
or-other false = refl

module _ (x i : ℕ) (h : i < 64) where
  one : 1 * 2 ^ i % 2 ^ 64 ≡ 2 ^ i
  one = let e : 1 * 2 ^ i ≡ 2 ^ i = omega arith in shl_exact 1 i 64 (omega arith) (omega arith) ∙ e

  pub bit-with : (j : ℕ) → bit (bit_or x (1 * 2 ^ i % 2 ^ 64)) j ≡ (bit x j || eqb j i)
  bit-with j = rw one (bit-or x (2 ^ i) j ∙ ap (λ (b : Bool). bit x j || b) (bit-power i j))

  pub bit-without : (j : ℕ) → bit (bit_xor (bit_or x (1 * 2 ^ i % 2 ^ 64)) (1 * 2 ^ i % 2 ^ 64)) j ≡ (bit x j && not (eqb j i))
  bit-without j =
      rw one
      (bit-xor (bit_or x (2 ^ i)) (2 ^ i) j
      ∙ ap₂ (λ (a b : Bool). differs a b) (bit-or x (2 ^ i) j ∙ ap (λ (b : Bool). bit x j || b) (bit-power i j)) (bit-power i j)
      ∙ elim (eqb j i) as (λ b. differs (bit x j || b) b ≡ (bit x j && not b)) [ true ↦ or_same (bit x j) | false ↦ or-other (bit x j) ])

-- ---- a bit with none, or with all

pub or-none : (b : Bool) → (b || false) ≡ b
or-none true = refl
or-none false = refl

pub but-none : (b : Bool) → (b && not false) ≡ b
but-none true = refl
but-none false = refl

pub but-all : (b : Bool) → (b && not true) ≡ false
but-all true = refl
but-all false = refl
