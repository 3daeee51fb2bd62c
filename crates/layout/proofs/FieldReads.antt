-- What a field's reader gives, by what the code fetched; the rules of single fields, by the code's tests.
use Rattle.std.specs.Prelude.{if◌then◌else◌}
use Prim.Native.Nat.{ℕ, zero, suc, ◌+◌, ◌*◌, ◌≤◌, ◌<◌}
use mathlib.Core.Path.{◌≡◌, refl, sym, ap, ◌∙◌}
use mathlib.Core.Bool.{Bool, true, false, ◌&&◌}
use mathlib.Core.List.{List}
use native.Mathlib.Omega.{arith}
use lib.ListN.{length}
use lib.Dec.{leb, ltb}
use borrow.Author.Tests.{leb-true, leb-false, lt-leb, le-leb, le-ltb, lt-ltb}
use Rattle.meaning.specs.Numbers.{bad_number, bad_variable}
use Rattle.meaning.specs.Bits.{field_at}
use Rattle.meaning.specs.Read.{read_refused, read_got, field, must}
use Rattle.meaning.specs.Image.{anything, between, a_term}
use Rattle.laws.specs.BaseLaws.{by-lt}
use Rattle.laws.specs.ReadLaws.{field-short, field-broken, field-kept, field-got, no-got}
use Rattle.layout.specs.Walks.{in_range}

-- ---- a fetch and its reader

module _ (s : List ℕ) (w p : ℕ) where
  pub there : (n : ℕ) → read_got n (p + w) ≡ field w anything s p → p + w ≤ 8 * length s
  there n e = (field-got w anything s p n (p + w) (sym e)).there

  pub is : (n : ℕ) → read_got n (p + w) ≡ field w anything s p → n ≡ field_at s p w
  is n e = (field-got w anything s p n (p + w) (sym e)).is

  module _ (rule : ℕ → ℕ) where
    pub read_short : read_refused 2 p ≡ field w anything s p → field w rule s p ≡ read_refused 2 p
    read_short e = by-lt (8 * length s) (p + w) (field-short w rule s p) (λ h. absurd (no-got 2 p _ _ (e ∙ field-kept w anything s p h refl)))

    pub read_kept : (n : ℕ) → read_got n (p + w) ≡ field w anything s p → rule n ≡ 0 → field w rule s p ≡ read_got n (p + w)
    read_kept n e k = rw (is n e) (field-kept w rule s p (there n e) (rw (is n e) at k))

    pub read-broken : (n m : ℕ) → read_got n (p + w) ≡ field w anything s p → rule n ≡ suc m → field w rule s p ≡ read_refused (suc m) p
    read-broken n m e k = field-broken w rule s p m (there n e) (rw (is n e) at k)

    -- a rule that gives the number of a refusal, whatever number it is
    pub read-refused : (n m : ℕ) → read_got n (p + w) ≡ field w anything s p → rule n ≡ m → 0 < m → field w rule s p ≡ read_refused m p
    read-refused n zero e k h = absurd (omega arith)
    read-refused n (suc m) e k h = read-broken n m e k

-- ---- the rules of single fields

-- a value from low to below end (a type and a buffer are judged so, and a count is, see `field-between`)
module _ (number low end n : ℕ) where
  pub range-low : n < low → must number (in_range low end) n ≡ number
  range-low h = rw (lt-leb low n h)

  pub range-high : low ≤ n → end ≤ n → must number (in_range low end) n ≡ number
  range-high h g = rw (le-leb low n h, le-ltb n end g)

  pub range-kept : low ≤ n → n < end → must number (in_range low end) n ≡ 0
  range-kept h g = rw (le-leb low n h, lt-ltb n end g)

-- two rules that judge each value alike make the same reader
field-same : (w : ℕ) (rule rule' : ℕ → ℕ) (s : List ℕ) (p : ℕ) → ((n : ℕ) → rule n ≡ rule' n) → field w rule s p ≡ field w rule' s p
unfolding field
field-same w rule rule' s p h = rw (h (field_at s p w))

leb-below : (n high : ℕ) → leb n high ≡ ltb n (high + 1)
leb-below n high =
    (elim (leb n high) as (λ t. leb n high ≡ t → t ≡ ltb n (high + 1)) [
      | true ↦ λ e. sym (lt-ltb n (high + 1) (omega (arith, leb-true n high e)))
      | false ↦ λ e. sym (le-ltb n (high + 1) (omega (arith, leb-false n high e)))
    ]) refl

pub field-between : (w low high : ℕ) (s : List ℕ) (p : ℕ) → field w (must bad_number (in_range low (high + 1))) s p ≡ field w (must bad_number (between low high)) s p
field-between w low high s p =
    field-same w (must bad_number (in_range low (high + 1))) (must bad_number (between low high)) s p (λ n. ap (λ (t : Bool). if leb low n && t then 0 else 3) (sym (leb-below n high)))

pub term-kept : (variables t : ℕ) → t < 4096 + variables → must bad_variable (a_term variables) t ≡ 0
term-kept variables t h = rw (lt-ltb t (4096 + variables) h)

pub term-big : (variables t : ℕ) → 4096 + variables ≤ t → must bad_variable (a_term variables) t ≡ bad_variable
term-big variables t h = rw (le-ltb t (4096 + variables) h)
