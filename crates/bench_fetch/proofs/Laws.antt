-- One bit more, what a fetch within bounds may be asked, and what is answered by whichever fetch.
use Prim.Native.Nat.{ℕ, ◌+◌, ◌*◌, ◌^◌, ◌≤◌}
use mathlib.Core.Path.{◌≡◌, ap, ap₂, ◌∙◌}
use mathlib.Core.Bool.{true, false, ◌&&◌}
use mathlib.Core.List.{List}
use native.Mathlib.Numerals.{add-one}
use lib.Dec.{leb}
use lib.ListN.{length}
use borrow.Author.Tests.{leb-true}
use Rattle.meaning.specs.Bits.{bit_at, field_at}
use Rattle.meaning.specs.Read.{Read, field}
use Rattle.meaning.specs.Image.{anything}
use Rattle.laws.specs.BaseLaws.{and_left, and_right}
use Rattle.bench_fetch.specs.Asked.{in_bounds, value_of, answer_of}

-- the bits so far and the next one are a field that is one bit longer
pub one_more : (image : List ℕ) (at i value bit : ℕ) → value ≡ field_at image at i → bit ≡ bit_at image (at + i) → value * 2 + bit ≡ field_at image at (i + 1)
unfolding field_at
one_more image at i value bit so_far next = rw (add-one i) (ap₂ (λ (v b : ℕ). v * 2 + b) so_far next)

module _ (image : List ℕ) (at width : ℕ) where
  -- what a fetch requires
  pub bounds-kept : in_bounds image at width ≡ true → (width ≤ 16) × (at ≤ 2 ^ 32) × (length image ≤ 65536)
  bounds-kept e =
      let near = and_left (leb 1 width && leb width 16 && leb at (2 ^ 32)) (leb (length image) 65536) e in
      let narrow = and_left (leb 1 width && leb width 16) (leb at (2 ^ 32)) near in (
        leb-true width 16 (and_right (leb 1 width) (leb width 16) narrow),
        leb-true at (2 ^ 32) (and_right (leb 1 width && leb width 16) (leb at (2 ^ 32)) near),
        leb-true (length image) 65536 (and_right (leb 1 width && leb width 16 && leb at (2 ^ 32)) (leb (length image) 65536) e),
      )

  pub answer-outside : in_bounds image at width ≡ false → 65536 ≡ answer_of image at width
  answer-outside e = rw e

  -- what is read within bounds
  pub answer-within : (got : Read ℕ) (r : ℕ) → in_bounds image at width ≡ true → got ≡ field width anything image at → r ≡ value_of got → r ≡ answer_of image at width
  answer-within got r e is value = rw e (value ∙ ap value_of is)
