-- Where reading stands and where it stops: within the image, and never further back than it began.
use Rattle.std.specs.Prelude.{if◌then◌else◌, ◌≡◌, refl, Bool, true, false, ◌&&◌, List, ℕ, ◌+◌, ◌*◌, ◌≤◌, ltb, eqb, length}
use Rattle.std.proofs.Common.{sym, ◌∙◌, arith, ltb-false}
use Rattle.meaning.specs.Base.{every, up_from}
use Rattle.meaning.specs.Numbers.{RuleNumbers, too_long, bad_end}
use Rattle.meaning.specs.Model.{Model, Sizes, Rule, Action, Query, Test}
use Rattle.meaning.specs.Bits.{field_at}
use Rattle.meaning.specs.Read.{Read, read_refused, read_got, Reader, follow, and_then, give, Judgement, field, require}
use Rattle.meaning.specs.Image.{Head, tests, stands_in, queries, actions, body, padding, ending, model, decode_by}
use Rattle.laws.specs.ReadLaws.{no-got, split, field-got, field-refused}
use Rattle.laws.specs.FieldLaws.{judgement, all_fields, at_end, model-fields, EachField, all-each}

-- a reader that begins within the image stays within it, and goes no way back: where it has read, and where it refuses
pub record Within (A : Type 0) (p : Reader A) : Type 1 where
  pub got : (image : List ℕ) (at : ℕ) (a : A) (next : ℕ) → at ≤ 8 * length image → p image at ≡ read_got a next → (at ≤ next) × (next ≤ 8 * length image)
  pub refused : (image : List ℕ) (at n x : ℕ) → at ≤ 8 * length image → p image at ≡ read_refused n x → (at ≤ x) × (x ≤ 8 * length image)

pub give-within : (A : Type 0) (a : A) → Within A (give a)
give-within A a =
    record {
      got = λ image at b next h e. let q : at ≡ next = cc in (omega arith, omega arith);
      refused = λ image at n x h e. absurd (no-got n x a at (sym e));
    }

module _ (A B : Type 0) (p : Reader A) (k : A → Reader B) (first : Within A p) (second : (a : A) → Within B (k a)) where
  then-refused : (image : List ℕ) (at n x : ℕ) → at ≤ 8 * length image → (r : Read A)
      → p image at ≡ r → follow r (λ a after. k a image after) ≡ read_refused n x → (at ≤ x) × (x ≤ 8 * length image)
  then-refused image at n x h (read_refused n' x') q e = first.refused image at n x h (q ∙ cc)
  then-refused image at n x h (read_got a next) q e =
      let f = first.got image at a next h q in
      let s = (second a).refused image next n x f.1 e in
      (omega arith, s.1)

  pub then-within : Within B (and_then p k)
  then-within =
      record {
        got = λ image at b next h e. split (p image at) _ e λ a n₁ e₁ k₁.
            let f = first.got image at a n₁ h e₁ in
            let s = (second a).got image n₁ b next f.1 k₁ in
            (omega arith, s.1);
        refused = λ image at n x h e. then-refused image at n x h (p image at) refl e;
      }

pub field-within : (width : ℕ) (rule : Judgement) → Within ℕ (field width rule)
field-within width rule =
    record {
      got = λ image at v next h e. let f = field-got width rule image at v next e in (omega arith, f.there);
      refused = λ image at n x h e. let f = field-refused width rule image at n x e in (omega arith, omega arith);
    }

pub require-within : (number : ℕ) (holds : Bool) → Within (Unit {0}) (require number holds)
require-within number true = give-within (Unit {0}) tt
require-within number false =
    record {
      got = λ image at u next h e. absurd (no-got number at u next e);
      refused = λ image at n x h e. let q : at ≡ x = cc in (omega arith, omega arith);
    }

pub body-within : (by : RuleNumbers) (version : ℕ) (z : Sizes) (h : Head) → Within (List Test) (tests by z h.variables h.tests)
    → Within (List Query) (queries by version z.buffers h.tests)
    → ((ts : List Test) → Within (List Action) (actions by z h.variables ts h.actions)) → Within Rule (body by version z h)
unfolding body
body-within by version z h tested asked acted =
    then-within (List Test) Rule _ _ tested λ ts.
    then-within (Unit {0}) Rule _ _ (require-within by.variable (every (stands_in ts) (up_from 0 h.variables))) λ u.
    then-within (List Query) Rule _ _ asked λ qs.
    then-within (List Action) Rule _ _ (acted ts) λ as'.
    give-within Rule _

within-each : (by : RuleNumbers) → EachField by by (λ A p p'. Within A p)
within-each by =
    record {
      gives = give-within;
      follows = λ A B p p' k k' h g. then-within A B p k h g;
      fields = λ width some narrow r. field-within width (judgement by r);
      bodies = λ version z h tested asked acted. body-within by version z h tested asked acted;
    }

-- ---- an image

-- whether an image ends as it must, and what is then said
abbrev pub ends_well : List ℕ → ℕ → Bool
ends_well image at = eqb (field_at image at (padding at)) 0 && eqb (at + padding at) (8 * length image)

abbrev pub ended_by : ℕ → Bool → Read (Unit {0})
ended_by at t = if t then read_got tt at else read_refused bad_end 0

-- what is refused at the end is refused by 4, at 0
pub end_refused : (image : List ℕ) (at n x : ℕ) → ending image at ≡ read_refused n x → (n ≡ bad_end) × (x ≡ 0)
unfolding ending
end_refused image at n x e = go (ends_well image at) e
  where
    go : (t : Bool) → ended_by at t ≡ read_refused n x → (n ≡ bad_end) × (x ≡ 0)
    go true k = absurd (no-got n x tt at (sym k))
    go false k = (cc, cc)

pub at-end-refused : (image : List ℕ) (m : Model) (at n x : ℕ) → at_end image (read_got m at) ≡ read_refused n x → ending image at ≡ read_refused n x
at-end-refused image m at n x e = go (ending image at) e
  where
    go : (r : Read (Unit {0})) → follow r (λ u end. read_got m end) ≡ read_refused n x → r ≡ read_refused n x
    go (read_refused n' x') k = cc
    go (read_got u end) k = absurd (no-got n x m end (sym k))

pub model-within : (by : RuleNumbers) (image : List ℕ) (n x : ℕ) → model by image 0 ≡ read_refused n x → x ≤ 8 * length image
model-within by image n x e = go (all_fields by image 0) refl (sym (model-fields by image 0) ∙ e)
  where
    go : (r : Read Model) → all_fields by image 0 ≡ r → at_end image r ≡ read_refused n x → x ≤ 8 * length image
    go (read_refused n' x') q k =
        let f = (all-each by by (λ A p p'. Within A p) (within-each by)).refused image 0 n' x' (omega arith) q in
        let z : x' ≡ x = cc in
        omega arith
    go (read_got m at) q k = omega (arith, (end_refused image at n x (at-end-refused image m at n x k)).1)

-- "Image: at most 65,536 bytes", and a longer one is refused at 0
pub decode-within : (by : RuleNumbers) (image : List ℕ) (n x : ℕ) → decode_by by image ≡ read_refused n x → (x ≤ 8 * length image) × (x ≤ 524288)
unfolding decode_by
decode-within by image n x e =
    (elim (ltb 65536 (length image)) as
    (λ t. ltb 65536 (length image) ≡ t → (if t then read_refused too_long 0 else model by image 0) ≡ read_refused n x → (x ≤ 8 * length image) × (x ≤ 524288)) [
      | true ↦ λ t k. let z : 0 ≡ x = cc in (omega arith, omega arith)
      | false ↦ λ t k. let p = model-within by image n x k in (p, omega (arith, ltb-false (65536) (length image) t))
    ]) refl e
