-- What the code computes from three bytes by shifts and masks is the field that the window law cuts out of them.
use Prim.Native.Nat.{ℕ, ◌+◌, ◌*◌, ◌-◌, ◌/◌, ◌%◌, ◌^◌, ◌≤◌, ◌<◌}
use mathlib.Core.Path.{◌≡◌, sym, ap, ap₂, ◌∙◌}
use mathlib.Core.List.{List}
use native.Mathlib.Omega.{arith}
use lib.ListN.{length, get_or, get_or-eq_default}
use lib.Bits.{bit_and, bit_or, or_shifted, and_mask}
use lib.Pow.{pow_mono}
use Rattle.meaning.specs.Bits.{field_at}
use Rattle.laws.specs.BitsLaws.{window, field_in}

-- the window of what is lent is that of the image from there on
pub window-of : (i : ℕ) (s l : List ℕ) → ((k : ℕ) → k < 3 → get_or l k 0 ≡ get_or s (i + k) 0) → window l 0 ≡ window s i
window-of i s l same =
    let z : i + 0 ≡ i = omega arith in
    let first = same 0 (omega arith) ∙ ap (λ (k : ℕ). get_or s k 0) z in
    ap₂ (λ (x y : ℕ). (x * 2 ^ 8 + y) * 2 ^ 8 + get_or l 2 0) first (same 1 (omega arith)) ∙ ap (λ (x : ℕ). (get_or s i 0 * 2 ^ 8 + get_or s (i + 1) 0) * 2 ^ 8 + x) (same 2 (omega arith))

-- the three bytes put together by shifts
window-or : (a b c : ℕ) → a < 2 ^ 8 → b < 2 ^ 8 → c < 2 ^ 8 → bit_or (bit_or (a * 2 ^ 16 % 2 ^ 32) (b * 2 ^ 8 % 2 ^ 32)) c ≡ (a * 2 ^ 8 + b) * 2 ^ 8 + c
window-or a b c ha hb hc =
    let e : a * 2 ^ 16 % 2 ^ 32 ≡ a * 2 ^ 16 = omega arith in
    let f : b * 2 ^ 8 % 2 ^ 32 ≡ b * 2 ^ 8 = omega arith in
    let g : a * 2 ^ 16 + b * 2 ^ 8 ≡ (a * 2 ^ 8 + b) * 2 ^ 8 = omega arith in
    rw (e, f, or_shifted a 16 (b * 2 ^ 8) (omega arith), g, or_shifted (a * 2 ^ 8 + b) 8 c hc)

-- three bytes that were read, put together
pub together : (s : List ℕ) (i a b c : ℕ) → (a ≡ get_or s i 0) × (a < 256) → (b ≡ get_or s (i + 1) 0) × (b < 256) → (c ≡ get_or s (i + 2) 0) × (c < 256)
    → bit_or (bit_or (a * 65536 % 4294967296) (b * 256 % 4294967296)) c ≡ window s i
together s i a b c ha hb hc =
    let g : (a * 2 ^ 8 + b) * 2 ^ 8 + c ≡ window s i = cc in
    window-or a b c ha.1 hb.1 hc.1 ∙ g

-- two bytes that were read, of a list that has no third
pub together-last : (s : List ℕ) (a b : ℕ) → length s ≤ 2 → (a ≡ get_or s 0 0) × (a < 256) → (b ≡ get_or s 1 0) × (b < 256)
    → bit_or (a * 65536 % 4294967296) (b * 256 % 4294967296) ≡ window s 0
together-last s a b h ha hb =
    let none : get_or s 2 0 ≡ 0 = get_or-eq_default s 0 {n = 2} h in
    let e : a * 2 ^ 16 % 2 ^ 32 ≡ a * 2 ^ 16 = omega (arith, ha.1) in
    let f : b * 2 ^ 8 % 2 ^ 32 ≡ b * 2 ^ 8 = omega (arith, hb.1) in
    let g : a * 2 ^ 16 + b * 2 ^ 8 ≡ window s 0 = omega (arith, ha.0, hb.0, none) in
    rw (e, f, or_shifted a 16 (b * 2 ^ 8) (omega (arith, hb.1))) g

-- what the code cuts out of them
abbrev pub cut_of : ℕ → ℕ → ℕ → ℕ
cut_of p w x = bit_and (x / 2 ^ (24 - p % 8 - w)) (1 * 2 ^ w % 4294967296 - 1)

pub cut : (s : List ℕ) (p w x : ℕ) → w ≤ 16 → x ≡ window s (p / 8) → get_or s (p / 8 + 1) 0 < 256 → get_or s (p / 8 + 2) 0 < 256 → cut_of p w x ≡ field_at s p w
cut s p w x hw is hb hc =
    let e : 24 - p % 8 - w ≡ 24 - (p % 8 + w) = omega arith in
    let f : 1 * 2 ^ w % 4294967296 ≡ 2 ^ w = omega (arith, pow_mono {i = w} {j = 16} hw) in
    rw (e, f, and_mask (x / 2 ^ (24 - (p % 8 + w))) w, is) (sym (field_in s p hb hc w (omega arith)))
