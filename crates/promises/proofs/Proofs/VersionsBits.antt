-- A list of bits in an image, and the image that is made of one: "Fields are packed most significant bit first, without gaps", "Zero bits up to the byte's end."
use Rattle.std.specs.Prelude.{if◌then◌else◌, ◌≡◌, Bool, true, false, List, ◌++◌, map, eqb}
use Rattle.std.proofs.Math.Path.{refl, ap}
use Rattle.std.proofs.Common.{sym, ◌∙◌, arith, length-append, get_or-append-add}
use Prim.Native.Nat.{ℕ, zero, suc, ◌+◌, ◌-◌, ◌*◌, ◌/◌, ◌%◌, ◌^◌, ◌≤◌, ◌<◌}
use borrow.Author.Tests.{lt-ltb, eq-eqb}
use Rattle.std.proofs.Math.ListN.{length, get_or, get_or-append, get_or-eq_default}
use Rattle.std.proofs.lemmas.List.{length-map}
use Rattle.std.proofs.Math.Pow.{are_bytes}
use Rattle.meaning.specs.Base.{up_from}
use Rattle.meaning.specs.Bits.{bit_at, field_at}
use Rattle.meaning.specs.Read.{read_got}
use Rattle.meaning.specs.Image.{padding, ending}
use Rattle.laws.specs.BaseLaws.{get_or-up_from, length-up_from}
use Rattle.laws.specs.BitsLaws.{bit_at_lt, packed, packed_lt, packed-bit, packed-same, field-packed}

-- ---- bits, and where they stand

abbrev weight : Bool → ℕ
weight b = if b then 1 else 0

-- bit i of a list, 0 past its end
abbrev bit_in : List Bool → ℕ → ℕ
bit_in bits i = weight (get_or bits i false)

weight-lt : (b : Bool) → weight b < 2
weight-lt true = omega arith
weight-lt false = omega arith

-- an image has these bits from a position on
pub record Stands (image : List ℕ) (at : ℕ) (bits : List Bool) : Type 0 where
  pub there : at + length bits ≤ 8 * length image
  pub same : (i : ℕ) → i < length bits → bit_at image (at + i) ≡ bit_in bits i

-- of two lists of bits in a row, each stands where it does
module _ (image : List ℕ) (at : ℕ) (xs ys : List Bool) (all : Stands image at (xs ++ ys)) where
  pub stands-first : Stands image at xs
  stands-first =
      let long = length-append xs ys in
      record {
        there = omega (arith, all.there);
        same = λ i h. all.same i (omega arith) ∙ ap weight (get_or-append xs ys false i h);
      }

  pub stands-second : Stands image (at + length xs) ys
  stands-second =
      let long = length-append xs ys in
      record {
        there = omega (arith, all.there);
        same = λ i h.
            ap (bit_at image) (omega arith) ∙ all.same (length xs + i) (omega arith) ∙ ap weight (get_or-append-add xs ys i false);
      }

-- the number that bits are
abbrev pub number_of : List Bool → ℕ
number_of bits = packed (bit_in bits) 0 (length bits)

-- a field whose bits they are has it
pub field-number : (image : List ℕ) (at : ℕ) (bits : List Bool) → Stands image at bits → field_at image at (length bits) ≡ number_of bits
field-number image at bits s =
    field-packed image at (length bits) ∙ packed-same (bit_at image) (bit_in bits) at 0 (length bits) (λ i h. s.same i h ∙ ap (bit_in bits) (omega arith))

-- the bits of an image from a position on
abbrev pub bits_from : List ℕ → ℕ → ℕ → List Bool
bits_from image at width = map (λ p. eqb (bit_at image p) 1) (up_from at width)

pub bits-long : (image : List ℕ) (at width : ℕ) → length (bits_from image at width) ≡ width
bits-long image at width = length-map (up_from at width) _ ∙ sym (length-map (up_from at width) (λ p. p)) ∙ length-up_from (λ p. p) at width

weight-bit : (n : ℕ) → n < 2 → n ≡ weight (eqb n 1)
weight-bit zero h = refl
weight-bit (suc zero) h = refl
weight-bit (suc (suc n)) h = absurd (omega arith)

pub bits-stand : (image : List ℕ) (at width : ℕ) → at + width ≤ 8 * length image → Stands image at (bits_from image at width)
bits-stand image at width h =
    let long = bits-long image at width in
    record {
      there = omega arith;
      same = λ i l. weight-bit (bit_at image (at + i)) (bit_at_lt image (at + i)) ∙ ap weight (sym (get_or-up_from (λ p. eqb (bit_at image p) 1) at width i (omega arith)));
    }

-- ---- the image that is made of bits

bytes_for : ℕ → ℕ
bytes_for n = (n + 7) / 8

byte_in : List Bool → ℕ → ℕ
byte_in bits j = packed (bit_in bits) (8 * j) 8

pub pack : List Bool → List ℕ
pack bits = map (byte_in bits) (up_from 0 (bytes_for (length bits)))

get_or-made : (f : ℕ → ℕ) (i n b : ℕ) → b < n → get_or (map f (up_from i n)) b 0 ≡ f (i + b)
get_or-made f i zero b h = absurd (omega arith)
get_or-made f i (suc n) zero h = ap f (omega arith)
get_or-made f i (suc n) (suc b) h = get_or-made f (i + 1) n b (omega arith) ∙ ap f (omega arith)

no_bits : (at width : ℕ) → packed (λ i. 0) at width ≡ 0
unfolding packed
no_bits at zero = refl
no_bits at (suc width) = ap (λ (x : ℕ). x * 2 + 0) (no_bits at width)

module _ (bits : List Bool) where
  small : (i : ℕ) → bit_in bits i < 2
  small i = weight-lt (get_or bits i false)

  -- it has as many bytes as they need
  pub pack-long : 8 * length (pack bits) ≡ length bits + padding (length bits)
  unfolding pack bytes_for
  pack-long = omega (arith, length-up_from (byte_in bits) 0 (bytes_for (length bits)))

  -- each is one
  bytes_small : (i n : ℕ) → are_bytes (map (byte_in bits) (up_from i n)) ≡ true
  unfolding byte_in
  bytes_small i zero = refl
  bytes_small i (suc n) = rw (lt-ltb (packed (bit_in bits) (8 * i) 8) 256 (packed_lt (bit_in bits) small (8 * i) 8)) (bytes_small (i + 1) n)

  pub pack-bytes : are_bytes (pack bits) ≡ true
  unfolding pack
  pack-bytes = bytes_small 0 (bytes_for (length bits))

  -- and their bits are these, and zeros
  pack-bit : (p : ℕ) → p < 8 * length (pack bits) → bit_at (pack bits) p ≡ bit_in bits p
  unfolding pack byte_in
  pack-bit p h =
      let j : ℕ = p / 8 in
      let k : ℕ = p % 8 in
      let byte : get_or (pack bits) j 0 ≡ packed (bit_in bits) (8 * j) 8 =
      get_or-made (byte_in bits) 0 (bytes_for (length bits)) j (omega (arith, length-up_from (byte_in bits) 0 (bytes_for (length bits)))) ∙ ap (byte_in bits) (omega arith) in
      ap (λ (x : ℕ). x / 2 ^ (7 - k) % 2) byte
      ∙ ap (λ (x : ℕ). packed (bit_in bits) (8 * j) 8 / 2 ^ x % 2) (omega arith)
      ∙ packed-bit (bit_in bits) small (8 * j) 8 k (omega arith)
      ∙ ap (bit_in bits) (omega arith)

  pub pack-stands : Stands (pack bits) 0 bits
  pack-stands = record { there = omega (arith, pack-long); same = λ i h. pack-bit (0 + i) (omega (arith, pack-long)) ∙ ap (bit_in bits) (omega arith) }

  -- so it ends where they do
  past-bits : field_at (pack bits) (length bits) (padding (length bits)) ≡ 0
  past-bits =
      let n : ℕ = length bits in
      field-packed (pack bits) n (padding n)
      ∙ packed-same (bit_at (pack bits)) (λ i. 0) n 0 (padding n) (λ i h. pack-bit (n + i) (omega (arith, pack-long)) ∙ ap weight (get_or-eq_default bits false {n = n + i} (omega arith)))
      ∙ no_bits 0 (padding n)

  pub pack-ends : ending (pack bits) (length bits) ≡ read_got tt (length bits)
  unfolding ending
  pack-ends = rw (past-bits, eq-eqb (length bits + padding (length bits)) (8 * length (pack bits)) (sym pack-long)) refl
