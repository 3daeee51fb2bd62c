-- Laws of reading: the three answers of a field, a reading taken apart, n things one after the other.
use Rattle.std.specs.Prelude.{if◌then◌else◌, ◌≡◌, refl, Bool, true, false, ◌⊎◌, ltb}
use Rattle.std.proofs.Common.{sym, inl, inr, arith, ltb-true, ltb-false, lt-ltb, le-ltb}
use Rattle.std.proofs.Math.Path.{ap}
use mathlib.Core.List.{List, [], ◌∷◌}
use Prim.Native.Nat.{ℕ, zero, suc, ◌+◌, ◌*◌, ◌≤◌, ◌<◌}
use Rattle.std.proofs.Math.ListN.{length}
use Rattle.meaning.specs.Base.{every}
use Rattle.meaning.specs.Numbers.{not_there}
use Rattle.meaning.specs.Bits.{field_at}
use Rattle.meaning.specs.Read.{Read, read_refused, read_got, Reader, follow, judged, field, times}

-- ---- one field

-- the three answers of a field
module _ (width : ℕ) (rule : ℕ → ℕ) (image : List ℕ) (at : ℕ) where
  pub field-short : 8 * length image < at + width → field width rule image at ≡ read_refused 2 at
  unfolding field
  field-short h = rw (lt-ltb (8 * length image) (at + width) h)

  pub field-broken : (n : ℕ) → at + width ≤ 8 * length image → rule (field_at image at width) ≡ suc n → field width rule image at ≡ read_refused (suc n) at
  unfolding field
  field-broken n h e = rw (le-ltb (8 * length image) (at + width) h, e)

  pub field-kept : at + width ≤ 8 * length image → rule (field_at image at width) ≡ 0 → field width rule image at ≡ read_got (field_at image at width) (at + width)
  unfolding field
  field-kept h e = rw (le-ltb (8 * length image) (at + width) h, e)

pub no-got : {A : Type 0} (n at : ℕ) (a : A) (next : ℕ) → read_refused n at ≡ read_got a next → ⊥
no-got n at a next e = let z : ◌≡◌ {A = ℕ} 0 1 = cc in omega arith

-- what a field that was read says
pub record FieldRead (width : ℕ) (rule : ℕ → ℕ) (image : List ℕ) (at value next : ℕ) : Type 0 where
  pub there : next ≤ 8 * length image
  pub after : next ≡ at + width
  pub is : value ≡ field_at image at width
  pub kept : rule value ≡ 0

judged-got : (n v at next : ℕ) (w end : ℕ) → judged n v at next ≡ read_got w end → (n ≡ 0) × (v ≡ w) × (next ≡ end)
judged-got zero v at next w end e = (refl, cc, cc)
judged-got (suc n) v at next w end e = absurd (no-got (suc n) at w end e)

pub field-got : (width : ℕ) (rule : ℕ → ℕ) (image : List ℕ) (at value next : ℕ) → field width rule image at ≡ read_got value next → FieldRead width rule image at value next
unfolding field
field-got width rule image at value next e =
    (elim (ltb (8 * length image) (at + width)) as
    (λ t. ltb (8 * length image) (at + width) ≡ t
    → (if t then read_refused 2 at else (judged (rule (field_at image at width)) (field_at image at width) at (at + width))) ≡ read_got value next
    → FieldRead width rule image at value next) [
      | true ↦ λ t h. absurd (no-got 2 at value next h)
      | false ↦ λ t h.
          let v : ℕ = field_at image at width in
          let g : (rule v ≡ 0) × (v ≡ value) × (at + width ≡ next) = judged-got (rule v) v at (at + width) value next h in
          record { there = omega (arith, ltb-false (8 * length image) (at + width) t); after = omega arith; is = sym g.1; kept = rw (← g.1) g.0 }
    ]) refl e

-- what a field that was refused says: it is refused at its first bit, because it is not wholly there or because its rule says so
pub record FieldRefused (width : ℕ) (rule : ℕ → ℕ) (image : List ℕ) (at n x : ℕ) : Type 0 where
  pub first : x ≡ at
  pub cause : ((8 * length image < at + width) × (n ≡ not_there)) ⊎ ((at + width ≤ 8 * length image) × (0 < n) × (rule (field_at image at width) ≡ n))

judged-refused : (j v at next n x : ℕ) → judged j v at next ≡ read_refused n x → (x ≡ at) × (0 < n) × (j ≡ n)
judged-refused zero v at next n x e = absurd (no-got n x v next (sym e))
judged-refused (suc j) v at next n x e = let q : suc j ≡ n = cc in (cc, omega arith, q)

pub field-refused : (width : ℕ) (rule : ℕ → ℕ) (image : List ℕ) (at n x : ℕ) → field width rule image at ≡ read_refused n x → FieldRefused width rule image at n x
unfolding field
field-refused width rule image at n x e =
    (elim (ltb (8 * length image) (at + width)) as
    (λ t. ltb (8 * length image) (at + width) ≡ t
    → (if t then read_refused 2 at else (judged (rule (field_at image at width)) (field_at image at width) at (at + width))) ≡ read_refused n x
    → FieldRefused width rule image at n x) [
      | true ↦ λ t h. record { first = cc; cause = inl (ltb-true (8 * length image) (at + width) t, cc) }
      | false ↦ λ t h.
          let g = judged-refused (rule (field_at image at width)) (field_at image at width) at (at + width) n x h in
          record { first = g.0; cause = inr (ltb-false (8 * length image) (at + width) t, g.1, g.2) }
    ]) refl e

-- a rule that is kept holds
pub must-kept : (n : ℕ) (t : Bool) → (if t then 0 else suc n) ≡ 0 → t ≡ true
must-kept n true e = refl
must-kept n false e = absurd (omega arith)

-- ---- a reading taken apart

-- three readings in a row, taken together either way
pub follow-follow : {A B C : Type 0} (r : Read A) (f : A → ℕ → Read B) (g : B → ℕ → Read C) → follow (follow r f) g ≡ follow r (λ a n. follow (f a n) g)
follow-follow (read_refused x y) f g = refl
follow-follow (read_got a n) f g = refl

-- A reading that went well went well at its first part, and from there on: each part's value and place are variables of their own, as in the reader's `do` block.
pub split : {A B R : Type 0} (r : Read A) (k : A → ℕ → Read B) {b : B} {end : ℕ} → follow r k ≡ read_got b end
    → ((a : A) (next : ℕ) → r ≡ read_got a next → k a next ≡ read_got b end → R) → R
split (read_refused n at) k {b} {end} e go = absurd (no-got n at b end e)
split (read_got a next) k e go = go a next refl e

-- what holds of each thing that a reader gives holds of all that `times` gives, and they are as many as were asked
module _ {A : Type 0} (p : Reader A) (test : A → Bool) (each : (image : List ℕ) (at : ℕ) (a : A) (next : ℕ) → p image at ≡ read_got a next → test a ≡ true) where
  pub times-all : (n : ℕ) (image : List ℕ) (at : ℕ) (xs : List A) (end : ℕ) → times n p image at ≡ read_got xs end → (every test xs ≡ true) × (length xs ≡ n)
  unfolding times
  times-all zero image at xs end e = let q : [] ≡ xs = cc in rw (← q) (refl, refl)
  times-all (suc n) image at xs end e =
      split (p image at) _ e λ a n₁ e₁ k₁.
      split (times n p image n₁) _ k₁ λ as' n₂ e₂ k₂.
      let q : a ∷ as' ≡ xs = cc in
      let ih : (every test as' ≡ true) × (length as' ≡ n) = times-all n image n₁ as' n₂ e₂ in
      rw (← q) (rw (each image at a n₁ e₁) ih.0, ap suc ih.1)
