-- What a fetch answers, said of the image's single bits, once over the width: three bytes that are shifted and cut give the field taken bit by bit, the short ends too.
use Rattle.std.specs.Prelude.{Option, Some, None, ◌≡◌, refl, List, ℕ, suc, ◌+◌, ◌-◌, ◌*◌, ◌^◌, ◌≤◌, ◌<◌, length}
use Rattle.std.proofs.Common.{sym, ap, ◌∙◌, arith}
use Rattle.meaning.specs.Bits.{bit_at, field_at}
use Rattle.meaning.specs.Read.{read_refused, read_got}
use Rattle.meaning.specs.Image.{anything}
use Rattle.laws.specs.BitsLaws.{bit_of, field_at-lt, field-bit}
use Rattle.laws.specs.ReadLaws.{no-got, field-got, field-short, field-kept}
use Rattle.laws.specs.BaseLaws.{by-lt}
use Rattle.read_fields.specs.Field.{fetched, FetchMet}

-- every bit of the field is in the image
abbrev pub Whole : List ℕ → ℕ → ℕ → Type 0
Whole image at width = (i : ℕ) → i < width → at + i < 8 * length image

-- "most significant bit first": bit i of the field, from its first on, is bit `at + i` of the image; and the value has no other bits
pub record Taken (image : List ℕ) (at width value : ℕ) : Type 0 where
  pub bits : (i : ℕ) → i < width → bit_of value (width - suc i) ≡ bit_at image (at + i)
  pub no_more : value < 2 ^ width

-- one bit of the field is missing
pub record Lacks (image : List ℕ) (at width : ℕ) : Type 0 where
  pub bit : ℕ
  pub of_it : bit < width
  pub missing : 8 * length image ≤ at + bit

same-value : (v w next : ℕ) → read_got v next ≡ read_got w next → v ≡ w
same-value v w next e = cc

-- r is what `read_fields::field_at` answers, by its contract, for a field of one bit or more
module _ (image : List ℕ) (at width : ℕ) (some : 0 < width) (r : Option ℕ) (met : FetchMet r image at width) where
  -- a value is the field taken bit by bit, and all its bits are there
  pub value_taken : (v : ℕ) → r ≡ Some v → Whole image at width × Taken image at width v
  value_taken v e =
      let read = field-got width anything image at v (at + width) (sym met ∙ ap (λ (f : Option ℕ). fetched f at width) e) in
      let is : v ≡ field_at image at width = read.is in
      (λ i h. omega (arith, read.there), record { bits = λ i h. ap (λ (n : ℕ). bit_of n (width - suc i)) is ∙ field-bit image at width i h; no_more = rw is (field_at-lt image at width) })

  -- and where all its bits are there it is given
  pub whole-taken : Whole image at width → r ≡ Some (field_at image at width)
  whole-taken whole =
      let last = whole (width - 1) (omega arith) in
      given r (field_at image at width) (met ∙ field-kept width anything image at (omega (arith, last)) refl)
    where
      given : (f : Option ℕ) (v : ℕ) → fetched f at width ≡ read_got v (at + width) → f ≡ Some v
      given (Some w) v e = ap Some (same-value w v (at + width) e)
      given None v e = absurd (no-got 2 at v (at + width) e)

  -- it says that the field is not wholly there exactly if one bit is missing
  pub short-lacks : r ≡ None → Lacks image at width
  short-lacks e =
      by-lt (8 * length image) (at + width)
      (λ h. record { bit = width - 1; of_it = omega arith; missing = omega arith })
      (λ h. absurd (no-got 2 at _ _ (sym (ap (λ (f : Option ℕ). fetched f at width) e) ∙ met ∙ field-kept width anything image at h refl)))

  pub lacks-short : Lacks image at width → r ≡ None
  lacks-short l = missed r (met ∙ field-short width anything image at (omega (arith, l.of_it, l.missing)))
    where
      missed : (f : Option ℕ) → fetched f at width ≡ read_refused 2 at → f ≡ None
      missed (Some w) e = absurd (no-got 2 at w (at + width) (sym e))
      missed None e = refl

-- there is no other answer
pub fetch-once : (image : List ℕ) (at width : ℕ) (r r' : Option ℕ) → FetchMet r image at width → FetchMet r' image at width → r ≡ r'
fetch-once image at width (Some v) (Some w) e e' = ap Some (same-value v w (at + width) (e ∙ sym e'))
fetch-once image at width (Some v) None e e' = absurd (no-got 2 at v (at + width) (e' ∙ sym e))
fetch-once image at width None (Some w) e e' = absurd (no-got 2 at w (at + width) (e ∙ sym e'))
fetch-once image at width None None e e' = refl
