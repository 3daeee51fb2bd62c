-- What was read of an image can be written as bits that are read as the same thing wherever they stand: field by field, and so a rule of version 1 as one of version 2, with
-- four bits more.
use Rattle.std.specs.Prelude.{◌≡◌, refl, Bool, true, false, List, [], ◌∷◌, ◌++◌, ℕ, zero, suc, ◌+◌, ◌*◌, ◌≤◌, length, replicate}
use Rattle.std.proofs.Common.{sym, ap, ap₂, ◌∙◌, arith, le-leb, ne_eqb, length-append}
use Rattle.meaning.specs.Base.{every, up_from}
use Rattle.meaning.specs.Numbers.{finer, bad_number, bad_variable}
use Rattle.meaning.specs.Model.{Sizes, Rule, Action, Query, Test}
use Rattle.meaning.specs.Bits.{field_at}
use Rattle.meaning.specs.Read.{read_got, Reader, and_then, give, Judgement, must, field, require, times, rising}
use Rattle.meaning.specs.Image.{between, anything, Head, head, test, tests, stands_in, least_queries, queried, queries, action, actions, body, rule}
use Rattle.laws.specs.ReadLaws.{field-kept, field-got, no-got, split}
use Rattle.laws.specs.ImageLaws.{between-got}
use Rattle.laws.specs.BitsLaws.{packed}
use Rattle.laws.specs.FieldLaws.{judgement, EachField, rising-each, test-each, action-each}
use Rattle.promises.specs.Before.{head01, body01, rule01}
use Rattle.promises.proofs.Proofs.VersionsRead.{head-tests}
use Rattle.promises.proofs.Proofs.VersionsBits.{Stands, stands-first, stands-second, number_of, field-number, bits_from, bits-long, bits-stand}

-- ---- bits that a reader reads as a thing, wherever they stand; they are as many as lie between two positions, and so many more

pub record Code (A : Type 0) (p : Reader A) (a : A) (at next more : ℕ) : Type 0 where
  pub bits : List Bool
  pub long : next + more ≡ at + length bits
  pub reads : (image : List ℕ) (from : ℕ) → Stands image from bits → p image from ≡ read_got a (from + length bits)

-- nothing is read, and there are no bits
pub given-code : (A : Type 0) (a : A) (image : List ℕ) (at : ℕ) (b : A) (next : ℕ) → give a image at ≡ read_got b next → Code A (give a) b at next 0
given-code A a image at b next e =
    let same : a ≡ b = cc in
    let there : at ≡ next = cc in
    record { bits = []; long = omega arith; reads = λ image' from s. ap₂ (λ (x : A) (y : ℕ). read_got x y) same (omega arith) }

-- the same bits, counted otherwise
pub recount : {A : Type 0} {p : Reader A} {a : A} {at next next' x y : ℕ} → Code A p a at next x → next + x ≡ next' + y → Code A p a at next' y
recount c e = record { bits = c.bits; long = sym e ∙ c.long; reads = c.reads }

-- one thing after the other, and the bits of one after those of the other
pub then-code : (A B : Type 0) (p : Reader A) (k : A → Reader B) {a : A} {b : B} {at mid end x y : ℕ} → Code A p a at mid x → Code B (k a) b mid end y
    → Code B (and_then p k) b at end (x + y)
then-code A B p k {a} {b} {at} {mid} {end} {x} {y} c d =
    let xs : List Bool = c.bits in
    let ys : List Bool = d.bits in
    let both : length (xs ++ ys) ≡ length xs + length ys = length-append xs ys in
    record {
      bits = xs ++ ys;
      long = omega (arith, c.long, d.long);
      reads = λ image from s.
          rw (c.reads image from (stands-first image from xs ys s)) (d.reads image (from + length xs) (stands-second image from xs ys s) ∙ ap (read_got b) (omega arith));
    }

-- a field of bits that its rule allows
bits-read : (bits : List Bool) (judge : Judgement) → judge (number_of bits) ≡ 0 → (image : List ℕ) (from : ℕ) → Stands image from bits
    → field (length bits) judge image from ≡ read_got (number_of bits) (from + length bits)
bits-read bits judge kept image from s =
    let is : field_at image from (length bits) ≡ number_of bits = field-number image from bits s in
    field-kept (length bits) judge image from s.there (ap judge is ∙ kept) ∙ ap (λ (v : ℕ). read_got v (from + length bits)) is

pub field-code : (bits : List Bool) (judge : Judgement) (at : ℕ) → judge (number_of bits) ≡ 0 → Code ℕ (field (length bits) judge) (number_of bits) at at (length bits)
field-code bits judge at kept = record { bits = bits; long = refl; reads = bits-read bits judge kept }

-- a field that was read, by a rule that allows its value too
pub read-code : (width : ℕ) (judge judge' : Judgement) (image : List ℕ) (at v next : ℕ) → field width judge image at ≡ read_got v next → judge' v ≡ 0
    → Code ℕ (field width judge') v at next 0
read-code width judge judge' image at v next e kept =
    let f = field-got width judge image at v next e in
    let bits : List Bool = bits_from image at width in
    let long : length bits ≡ width = bits-long image at width in
    let stand : Stands image at bits = bits-stand image at width (omega (arith, f.there)) in
    let is : number_of bits ≡ v = sym (field-number image at bits stand) ∙ ap (field_at image at) long ∙ sym f.is in
    record {
      bits = bits;
      long = omega (arith, f.after);
      reads = λ image' from s.
          ap (λ (w : ℕ). field w judge' image' from) (sym long) ∙ bits-read bits judge' (ap judge' is ∙ kept) image' from s ∙ ap (λ (x : ℕ). read_got x (from + length bits)) is;
    }

-- the same field by the same rule
pub same_code : (width : ℕ) (judge : Judgement) (image : List ℕ) (at v next : ℕ) → field width judge image at ≡ read_got v next → Code ℕ (field width judge) v at next 0
same_code width judge image at v next e = read-code width judge judge image at v next e (field-got width judge image at v next e).kept

-- what is required between two fields
pub require-code : (number : ℕ) (holds : Bool) (image : List ℕ) (at : ℕ) (u : Unit {0}) (next : ℕ) → require number holds image at ≡ read_got u next
    → Code (Unit {0}) (require number holds) u at next 0
require-code number true image at u next e =
    let there : at ≡ next = cc in
    record { bits = []; long = omega arith; reads = λ image' from s. ap (read_got tt) (omega arith) }
require-code number false image at u next e = absurd (no-got number at u next e)

-- n things, each with four bits more
pub times-code : (A : Type 0) (p p' : Reader A) → ((image : List ℕ) (at : ℕ) (a : A) (next : ℕ) → p image at ≡ read_got a next → Code A p' a at next 4)
    → (n : ℕ) (image : List ℕ) (at : ℕ) (as' : List A) (next : ℕ) → times n p image at ≡ read_got as' next → Code (List A) (times n p') as' at next (4 * n)
unfolding times
times-code A p p' each zero image at as' next e = given-code (List A) [] image at as' next e
times-code A p p' each (suc n) image at as' next e =
    split (p image at) _ e λ a n₁ e₁ k₁.
    split (times n p image n₁) _ k₁ λ rest n₂ e₂ k₂.
    recount
    (then-code A (List A) p' _ (each image at a n₁ e₁)
    (then-code (List A) (List A) (times n p') _ (times-code A p p' each n image n₁ rest n₂ e₂) (given-code (List A) (a ∷ rest) image n₂ as' next k₂)))
    (omega arith)

-- ---- all readers of fields: what was read can be written

pub record Written (A : Type 0) (p : Reader A) : Type 1 where
  pub code : (image : List ℕ) (at : ℕ) (a : A) (next : ℕ) → p image at ≡ read_got a next → Code A p a at next 0

give-written : (A : Type 0) (a : A) → Written A (give a)
give-written A a = record { code = given-code A a }

then-written : (A B : Type 0) (p : Reader A) (k : A → Reader B) → Written A p → ((a : A) → Written B (k a)) → Written B (and_then p k)
then-written A B p k first second =
    record { code = λ image at b next e. split (p image at) _ e λ a n₁ e₁ k₁. then-code A B p k (first.code image at a n₁ e₁) ((second a).code image n₁ b next k₁) }

field-written : (width : ℕ) (judge : Judgement) → Written ℕ (field width judge)
field-written width judge = record { code = same_code width judge }

require-written : (number : ℕ) (holds : Bool) → Written (Unit {0}) (require number holds)
require-written number holds = record { code = require-code number holds }

body-written : (version : ℕ) (z : Sizes) (h : Head) → Written (List Test) (tests finer z h.variables h.tests) → Written (List Query) (queries finer version z.buffers h.tests)
    → ((ts : List Test) → Written (List Action) (actions finer z h.variables ts h.actions)) → Written Rule (body finer version z h)
unfolding body
body-written version z h tested asked acted =
    then-written (List Test) Rule _ _ tested λ ts.
    then-written (Unit {0}) Rule _ _ (require-written bad_variable (every (stands_in ts) (up_from 0 h.variables))) λ u.
    then-written (List Query) Rule _ _ asked λ qs.
    then-written (List Action) Rule _ _ (acted ts) λ as'.
    give-written Rule _

abbrev pub WrittenFor : (A : Type 0) → Reader A → Reader A → Type 1
WrittenFor A p p' = Written A p

pub all-written : EachField finer finer WrittenFor
all-written =
    record {
      gives = give-written;
      follows = λ A B p p' k k' h g. then-written A B p k h g;
      fields = λ width some narrow r. field-written width (judgement finer r);
      bodies = body-written;
    }

tests-written : (z : Sizes) (variables n : ℕ) → Written (List Test) (tests finer z variables n)
tests-written z variables n =
    let one : ℕ → Reader Test = test finer z variables in
    rising-each finer finer WrittenFor all-written Test one one (λ t. t.buffer) (test-each finer finer WrittenFor all-written z variables) n 0

actions-written : (z : Sizes) (variables : ℕ) (ts : List Test) (n : ℕ) → Written (List Action) (actions finer z variables ts n)
actions-written z variables ts n =
    let one : ℕ → Reader Action = action finer z variables ts in
    rising-each finer finer WrittenFor all-written Action one one (λ a. a.buffer) (action-each finer finer WrittenFor all-written z variables ts) n 0

-- ---- a rule of version 1, written as one of version 2

between-kept : (number low high n : ℕ) → low ≤ n → n ≤ high → must number (between low high) n ≡ 0
between-kept number low high n l h = rw (le-leb low n l, le-leb n high h) refl

head-code : (buffers : ℕ) (image : List ℕ) (at : ℕ) (h : Head) (next : ℕ) → head01 finer buffers image at ≡ read_got h next → Code Head (head finer 2 buffers) h at next 0
unfolding head01 head
head-code buffers image at h next e =
    split (field 16 anything image at) _ e λ u n₁ e₁ k₁.
    split (field 4 (must bad_number (between 1 buffers)) image n₁) _ k₁ λ n n₂ e₂ k₂.
    split (field 4 (must bad_number (between 0 buffers)) image n₂) _ k₂ λ m n₃ e₃ k₃.
    split (field 4 (must bad_number (between 0 8)) image n₃) _ k₃ λ v n₄ e₄ k₄.
    let few : n ≤ buffers = (between-got 4 1 buffers image n₁ n n₂ e₂).1 in
    then-code ℕ Head _ _ (same_code 16 anything image at u n₁ e₁)
    (then-code ℕ Head _ _ (read-code 4 _ (must bad_number (between 0 buffers)) image n₁ n n₂ e₂ (between-kept bad_number 0 buffers n (omega arith) few))
    (then-code ℕ Head _ _ (same_code 4 (must bad_number (between 0 buffers)) image n₂ m n₃ e₃)
    (then-code ℕ Head _ _ (same_code 4 (must bad_number (between 0 8)) image n₃ v n₄ e₄) (given-code Head _ image n₄ h next k₄))))

-- "A rule of a version 2 image has, after its tests, a 4-bit number of queries": 0, where there is a test
no-queries-code : (buffers n at : ℕ) → 1 ≤ n → Code (List Query) (queried finer buffers n) [] at at 4
unfolding queried rising packed
no-queries-code buffers n at some =
    let tested : least_queries n ≡ 0 = rw (ne_eqb n 0 (λ none. omega arith)) refl in
    let kept : must bad_number (between (least_queries n) buffers) 0 ≡ 0 = rw tested (between-kept bad_number 0 buffers 0 (omega arith) (omega arith)) in
    then-code ℕ (List Query) _ _ (field-code (replicate 4 false) (must bad_number (between (least_queries n) buffers)) at kept) (given-code (List Query) [] [] at [] at refl)

pub rule-code : (z : Sizes) (image : List ℕ) (at : ℕ) (r : Rule) (next : ℕ) → rule01 finer z image at ≡ read_got r next → Code Rule (rule finer 2 z) r at next 4
unfolding rule01 body01 rule body
rule-code z image at r next e =
    split (head01 finer z.buffers image at) _ e λ h n₁ e₁ k₁.
    split (tests finer z h.variables h.tests image n₁) _ k₁ λ ts n₂ e₂ k₂.
    split (require bad_variable (every (stands_in ts) (up_from 0 h.variables)) image n₂) _ k₂ λ u n₃ e₃ k₃.
    split (actions finer z h.variables ts h.actions image n₃) _ k₃ λ as' n₄ e₄ k₄.
    then-code Head Rule _ _ (head-code z.buffers image at h n₁ e₁)
    (then-code (List Test) Rule _ _ ((tests-written z h.variables h.tests).code image n₁ ts n₂ e₂)
    (then-code (Unit {0}) Rule _ _ (require-code bad_variable (every (stands_in ts) (up_from 0 h.variables)) image n₂ u n₃ e₃)
    (then-code (List Query) Rule _ _ (no-queries-code z.buffers h.tests n₃ (head-tests z.buffers image at h n₁ e₁))
    (then-code (List Action) Rule _ _ ((actions-written z h.variables ts h.actions).code image n₃ as' n₄ e₄) (given-code Rule _ image n₄ r next k₄)))))
