-- Laws of a refresh: a rule tests or queries a marked buffer exactly if its mask of the buffers that it looks at and the mark have a place in common.
use Rattle.std.specs.Prelude.{◌≡◌, refl, Bool, true, false, ◌&&◌, ◌||◌, List, [], ◌∷◌, ℕ, eqb}
use Rattle.std.proofs.Common.{sym, ap, ap₂, ◌∙◌, arith, eqb-true, eq-eqb}
use Rattle.std.proofs.Math.Bool.{or-true}
use Rattle.std.specs.Int.Bits.{bit_and}
use Rattle.meaning.specs.Base.{any_of, bit}
use Rattle.meaning.specs.Model.{Rule, Query}
use Rattle.meaning.specs.Image.{is_tested}
use Rattle.meaning.specs.Refresh.{tests_marked}
use Rattle.laws.specs.BaseLaws.{Place, and_left, and_right, bit-and, bit-zero, no_true, some-place}

-- a buffer is queried
abbrev pub is_queried : List Query → ℕ → Bool
is_queried qs b = any_of (λ q. eqb q.buffer b) qs

-- a rule tests or queries buffer b
abbrev pub looks_at : Rule → ℕ → Bool
looks_at r b = is_tested r.tests b || is_queried r.queries b

-- ---- things on buffers: some are on a marked one exactly if one buffer has both

module _ {A : Type 0} (buffer : A → ℕ) where
  abbrev is_on : List A → ℕ → Bool
  is_on xs b = any_of (λ x. eqb (buffer x) b) xs

  abbrev on_marked : ℕ → List A → Bool
  on_marked mark xs = any_of (λ x. bit mark (buffer x)) xs

  -- a buffer that some are on, and that is marked
  record Met (mark : ℕ) (xs : List A) : Type 0 where
    at : ℕ
    is_on : is_on xs at ≡ true
    is_marked : bit mark at ≡ true

  met : (mark : ℕ) (xs : List A) → on_marked mark xs ≡ true → Met mark xs
  met mark [] e = absurd (no_true (sym e))
  met mark (x ∷ xs) e =
      (elim (bit mark (buffer x)) as (λ b. bit mark (buffer x) ≡ b → (b || on_marked mark xs) ≡ true → Met mark (x ∷ xs)) [
        | true ↦ λ b g. record { at = buffer x; is_on = rw (eq-eqb (buffer x) (buffer x) refl); is_marked = b }
        | false ↦ λ b g.
            let m : Met mark xs = met mark xs g in
            record { at = m.at; is_on = rw m.is_on (or-true (eqb (buffer x) m.at)); is_marked = m.is_marked }
      ]) refl e

  marked : (mark b : ℕ) (xs : List A) → is_on xs b ≡ true → bit mark b ≡ true → on_marked mark xs ≡ true
  marked mark b [] e m = absurd (no_true (sym e))
  marked mark b (x ∷ xs) e m =
      (elim (eqb (buffer x) b) as (λ t. eqb (buffer x) b ≡ t → (t || is_on xs b) ≡ true → (bit mark (buffer x) || on_marked mark xs) ≡ true) [
        | true ↦ λ t g. let q : buffer x ≡ b = eqb-true (buffer x) b t in rw (q, m) refl
        | false ↦ λ t g. rw (marked mark b xs g m) (or-true (bit mark (buffer x)))
      ]) refl e

-- ---- so of a rule's tests and queries together

-- a rule looks at a marked buffer
pub sees-marked : (mark b : ℕ) (r : Rule) → looks_at r b ≡ true → bit mark b ≡ true → tests_marked mark r ≡ true
sees-marked mark b r e m =
    (elim (is_tested r.tests b) as (λ t. is_tested r.tests b ≡ t → (t || is_queried r.queries b) ≡ true → tests_marked mark r ≡ true) [
      | true ↦ λ t g. rw (marked (λ t. t.buffer) mark b r.tests t m) refl
      | false ↦ λ t g. rw (marked (λ q. q.buffer) mark b r.queries g m) (or-true (any_of (λ t. bit mark t.buffer) r.tests))
    ]) refl e

-- and a rule that tests or queries a marked buffer looks at one
pub record Seen (mark : ℕ) (r : Rule) : Type 0 where
  pub at : ℕ
  pub looks : looks_at r at ≡ true
  pub is_marked : bit mark at ≡ true

pub marked-seen : (mark : ℕ) (r : Rule) → tests_marked mark r ≡ true → Seen mark r
marked-seen mark r e =
    (elim (any_of (λ t. bit mark t.buffer) r.tests) as
    (λ t. any_of (λ t. bit mark t.buffer) r.tests ≡ t → (t || any_of (λ q. bit mark q.buffer) r.queries) ≡ true → Seen mark r) [
      | true ↦ λ t g. let m = met (λ t. t.buffer) mark r.tests t in record { at = m.at; looks = rw m.is_on refl; is_marked = m.is_marked }
      | false ↦ λ t g.
          let m = met (λ q. q.buffer) mark r.queries g in
          record { at = m.at; looks = rw m.is_on (or-true (is_tested r.tests m.at)); is_marked = m.is_marked }
    ]) refl e

-- a mask of the buffers that a rule looks at
abbrev pub MaskOf : Rule → ℕ → Type 0
MaskOf r mask = (b : ℕ) → bit mask b ≡ looks_at r b

pub meets : (mark mask : ℕ) (r : Rule) → MaskOf r mask → (bit_and mask mark ≡ 0 → ⊥) → tests_marked mark r ≡ true
meets mark mask r is z =
    let p : Place (bit_and mask mark) = some-place (bit_and mask mark) (bit_and mask mark) (omega arith) z in
    let both : (bit mask p.at && bit mark p.at) ≡ true = sym (bit-and mask mark p.at) ∙ p.is_set in
    sees-marked mark p.at r (sym (is p.at) ∙ and_left (bit mask p.at) (bit mark p.at) both) (and_right (bit mask p.at) (bit mark p.at) both)

pub misses : (mark mask : ℕ) (r : Rule) → MaskOf r mask → bit_and mask mark ≡ 0 → tests_marked mark r ≡ false
misses mark mask r is e =
    (elim (tests_marked mark r) as (λ t. tests_marked mark r ≡ t → t ≡ false) [
      | true ↦ λ t.
          let m : Seen mark r = marked-seen mark r t in
          let set : bit (bit_and mask mark) m.at ≡ true = bit-and mask mark m.at ∙ ap₂ (λ (x y : Bool). x && y) (is m.at ∙ m.looks) m.is_marked in
          absurd (no_true (sym set ∙ ap (λ (n : ℕ). bit n m.at) e ∙ bit-zero m.at))
      | false ↦ λ t. refl
    ]) refl
