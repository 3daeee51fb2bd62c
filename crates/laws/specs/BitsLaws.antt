-- Laws of a field, once over position and width; and that one of at most 16 bits lies in three bytes: fetch those, shift and cut.
use Rattle.std.specs.Prelude.{◌≡◌, refl, List, get_or}
use Rattle.std.proofs.Math.Path.{sym, ap, ap₂}
use Rattle.std.proofs.Common.{◌∙◌, subst, pow-suc, add-one, shr-shr}
use Prim.Native.Nat.{ℕ, zero, suc, ◌+◌, ◌-◌, ◌*◌, ◌/◌, ◌%◌, ◌^◌, ◌≤◌, ◌<◌}
use Rattle.std.proofs.Math.Nat.{mod-one}
use native.Mathlib.Omega.{arith}
use Rattle.std.proofs.Math.Pow.{high, low, field, mod-mod-pow}
use Rattle.std.proofs.lemmas.Nat.{mod-pow-add}
use Rattle.meaning.specs.Bits.{bit_at, field_at}
use Rattle.laws.specs.BaseLaws.{by-lt}

pub bit_at_lt : (image : List ℕ) (at : ℕ) → bit_at image at < 2
bit_at_lt image at = omega arith

-- ---- bits as a number

-- bit k of a number, the least first
abbrev pub bit_of : ℕ → ℕ → ℕ
bit_of n k = n / 2 ^ k % 2

high_bit : (hi m k : ℕ) {lo : ℕ} → lo < 2 ^ m → bit_of (hi * 2 ^ m + lo) (m + k) ≡ bit_of hi k
high_bit hi m k {lo} h = ap (λ (x : ℕ). x % 2) (sym (shr-shr (hi * 2 ^ m + lo) m k) ∙ ap (λ (x : ℕ). x / 2 ^ k) (high hi m h))

-- so many bits from a place on as a number, the first the most significant
unfoldable pub packed : (ℕ → ℕ) → ℕ → ℕ → ℕ
packed bits at zero = 0
packed bits at (suc width) = packed bits at width * 2 + bits (at + width)

-- it has these bits, and no more of them
module _ (bits : ℕ → ℕ) (binary : (i : ℕ) → bits i < 2) (at : ℕ) where
  pub packed_lt : (width : ℕ) → packed bits at width < 2 ^ width
  unfolding packed
  packed_lt zero = omega arith
  packed_lt (suc width) = rw (pow-suc 2 width) (omega (arith, packed_lt width, binary (at + width)))

  pub packed-bit : (width i : ℕ) → i < width → bit_of (packed bits at width) (width - suc i) ≡ bits (at + i)
  unfolding packed
  packed-bit zero i h = absurd (omega arith)
  packed-bit (suc width) i h =
      let b : ℕ = bits (at + width) in
      let small : b < 2 ^ 1 = binary (at + width) in
      by-lt i width
      (λ l.
      let e : suc width - suc i ≡ 1 + (width - suc i) = omega arith in
      ap (bit_of (packed bits at width * 2 + b)) e ∙ high_bit (packed bits at width) 1 (width - suc i) small ∙ packed-bit width i l)
      (λ l.
      let e : suc width - suc i ≡ 0 = omega arith in
      let f : i ≡ width = omega arith in
      let g : (packed bits at width * 2 + b) / 1 % 2 ≡ b = omega arith in
      rw (e, f) g)

-- two such numbers are the same where their bits are
pub packed-same : (bits bits' : ℕ → ℕ) (at at' width : ℕ) → ((i : ℕ) → i < width → bits (at + i) ≡ bits' (at' + i)) → packed bits at width ≡ packed bits' at' width
unfolding packed
packed-same bits bits' at at' zero h = refl
packed-same bits bits' at at' (suc width) h =
    ap₂ (λ (x y : ℕ). x * 2 + y) (packed-same bits bits' at at' width (λ i l. h i (omega arith))) (h width (omega arith))

-- a field is its bits in the image's order, the first the most significant
pub field-packed : (image : List ℕ) (at width : ℕ) → field_at image at width ≡ packed (bit_at image) at width
unfolding field_at packed
field-packed image at zero = refl
field-packed image at (suc width) = ap (λ (x : ℕ). x * 2 + bit_at image (at + width)) (field-packed image at width)

-- and so below 2 to the power of its width
pub field_at-lt : (image : List ℕ) (at width : ℕ) → field_at image at width < 2 ^ width
field_at-lt image at width = rw (field-packed image at width) (packed_lt (bit_at image) (bit_at_lt image) at width)

pub field-bit : (image : List ℕ) (at width i : ℕ) → i < width → bit_of (field_at image at width) (width - suc i) ≡ bit_at image (at + i)
field-bit image at width i h = ap (λ (x : ℕ). bit_of x (width - suc i)) (field-packed image at width) ∙ packed-bit (bit_at image) (bit_at_lt image) at width i h

low-bit-past : (hi j k : ℕ) {lo : ℕ} → lo < 2 ^ (suc j + k) → bit_of (hi * 2 ^ (suc j + k) + lo) k ≡ bit_of lo k
low-bit-past hi j k {lo} h =
    let n : ℕ = hi * 2 ^ (suc j + k) + lo in
    sym (mod-mod-pow (n / 2 ^ k) j 1)
    ∙ ap (λ (x : ℕ). n / 2 ^ k % 2 ^ x % 2) (add-one j)
    ∙ ap (λ (x : ℕ). x % 2) (sym (field n (suc j) k))
    ∙ ap (λ (x : ℕ). x / 2 ^ k % 2) (low hi (suc j + k) h)

low_bit : (hi m k : ℕ) {lo : ℕ} → lo < 2 ^ m → k < m → bit_of (hi * 2 ^ m + lo) k ≡ bit_of lo k
low_bit hi m k {lo} h l =
    let e : suc (m - suc k) + k ≡ m = omega arith in
    subst (λ (x : ℕ). lo < 2 ^ x → bit_of (hi * 2 ^ x + lo) k ≡ bit_of lo k) e (low-bit-past hi (m - suc k) k) h

-- ---- three bytes

-- the three bytes from byte i on, as one number
abbrev pub window : List ℕ → ℕ → ℕ
window s i = (get_or s i 0 * 2 ^ 8 + get_or s (i + 1) 0) * 2 ^ 8 + get_or s (i + 2) 0

module _ (s : List ℕ) (p : ℕ) (h1 : get_or s (p / 8 + 1) 0 < 2 ^ 8) (h2 : get_or s (p / 8 + 2) 0 < 2 ^ 8) where
  bit_in : (w : ℕ) → p % 8 + w < 24 → bit_at s (p + w) ≡ bit_of (window s (p / 8)) (23 - (p % 8 + w))
  bit_in w h =
      let k : ℕ = 7 - (p + w) % 8 in
      let b0 : ℕ = get_or s (p / 8) 0 in
      let b1 : ℕ = get_or s (p / 8 + 1) 0 in
      let b2 : ℕ = get_or s (p / 8 + 2) 0 in
      by-lt (p % 8 + w) 8
      (λ a.
      let e : (p + w) / 8 ≡ p / 8 = omega arith in
      let f : 23 - (p % 8 + w) ≡ 8 + (8 + k) = omega arith in
      rw (e, f) (sym (high_bit (b0 * 2 ^ 8 + b1) 8 (8 + k) h2 ∙ high_bit b0 8 k h1)))
      (λ a.
      by-lt (p % 8 + w) 16
      (λ b.
      let e : (p + w) / 8 ≡ p / 8 + 1 = omega arith in
      let f : 23 - (p % 8 + w) ≡ 8 + k = omega arith in
      rw (e, f) (sym (high_bit (b0 * 2 ^ 8 + b1) 8 k h2 ∙ low_bit b0 8 k h1 (omega arith))))
      (λ b.
      let e : (p + w) / 8 ≡ p / 8 + 2 = omega arith in
      let f : 23 - (p % 8 + w) ≡ k = omega arith in
      rw (e, f) (sym (low_bit (b0 * 2 ^ 8 + b1) 8 k h2 (omega arith)))))

  -- the field is what the shift and the mask cut out of the window
  pub field_in : (w : ℕ) → p % 8 + w ≤ 24 → field_at s p w ≡ window s (p / 8) / 2 ^ (24 - (p % 8 + w)) % 2 ^ w
  unfolding field_at
  field_in zero h = sym (mod-one (window s (p / 8) / 2 ^ (24 - (p % 8 + 0))))
  field_in (suc w) h =
      let k : ℕ = 23 - (p % 8 + w) in
      let n : ℕ = window s (p / 8) in
      let e : 24 - (p % 8 + w) ≡ k + 1 = omega arith in
      let f : 24 - (p % 8 + suc w) ≡ k = omega arith in
      ap₂ (λ (x y : ℕ). x * 2 + y) (field_in w (omega arith) ∙ ap (λ (x : ℕ). n / 2 ^ x % 2 ^ w) e ∙ ap (λ (x : ℕ). x % 2 ^ w) (sym (shr-shr n k 1))) (bit_in w (omega arith))
      ∙ sym (mod-pow-add (n / 2 ^ k) w 1)
      ∙ ap (λ (x : ℕ). n / 2 ^ k % 2 ^ x) (add-one w)
      ∙ ap (λ (x : ℕ). n / 2 ^ x % 2 ^ suc w) (sym f)
