-- How the reading of an image goes and where it stops, whatever follows the bits that it has read: said of a field, kept by reading one thing after the other, and so
-- of all fields of an image.
use Rattle.std.specs.Prelude.{if◌then◌else◌, ◌≡◌, ◌⊎◌, Bool, true, false, ℕ, zero, suc, ◌+◌, ◌*◌, ◌≤◌, ◌<◌, length}
use Rattle.std.proofs.Math.Path.{refl}
use Rattle.std.proofs.Common.{sym, ap, ap₂, ◌∙◌, inl, inr, ⊎_elim, arith}
use mathlib.Core.List.{List}
use Rattle.meaning.specs.Base.{every, up_from}
use Rattle.meaning.specs.Numbers.{finer, not_there, bad_number, bad_end, bad_mask, bad_variable, bad_buffer}
use Rattle.meaning.specs.Model.{Model, Sizes, Rule, Action, Query, Test, Fact}
use Rattle.meaning.specs.Bits.{field_at}
use Rattle.meaning.specs.Read.{Read, read_refused, read_got, Reader, follow, and_then, give, Judgement, next, or_else, field, require, times}
use Rattle.meaning.specs.Image.{utility_of, Head, tests, stands_in, queries, actions, body, fact, rule, ending, Beginning, Contents, contents, model}
use Rattle.laws.specs.ReadLaws.{no-got, split, field-short, field-broken, field-kept, field-got, field-refused}
use Rattle.laws.specs.FieldLaws.{FieldRule, free, of_number, of_mask, of-variable, of-buffer, both, judgement, all_fields, all-each, times-each, fact-each, rule-each, beginning-each, EachField}
use Rattle.laws.specs.PlaceLaws.{Within, give-within, then-within, field-within, body-within, ends_well, ended_by}
use Rattle.promises.specs.Sentences.{BrokenRule, of-a-number, of-a-mask, of-a-variable, of-a-buffer}
use Rattle.promises.specs.Places.{HasPlace, of-a-gap, of-a-rule, ComesTo, into, past, BeginsAs}

-- ---- which numbers have a place

pub above : {n : ℕ} → BrokenRule n → 2 < n
above of-a-number = omega arith
above of-a-mask = omega arith
above of-a-variable = omega arith
above of-a-buffer = omega arith

-- 3, or 11 to 13
pub rule-range : {n : ℕ} → BrokenRule n → (n ≡ 3) ⊎ ((10 < n) × (n < 14))
rule-range of-a-number = inl refl
rule-range of-a-mask = inr (omega arith, omega arith)
rule-range of-a-variable = inr (omega arith, omega arith)
rule-range of-a-buffer = inr (omega arith, omega arith)

-- none of 0, 1, and 4 to 10
pub no_place : (n : ℕ) → (n < 2) ⊎ ((3 < n) × (n < 11)) → HasPlace n → ⊥
no_place n h of-a-gap = by h
  where
    by : (◌<◌ 2 2) ⊎ ((◌<◌ 3 2) × (◌<◌ 2 11)) → ⊥
    by (inl k) = omega arith
    by (inr k) = omega (arith, k.0)
no_place n h (of-a-rule r) = by h (rule-range r)
  where
    by : (n < 2) ⊎ ((3 < n) × (n < 11)) → (n ≡ 3) ⊎ ((10 < n) × (n < 14)) → ⊥
    by (inl k) (inl e) = omega arith
    by (inl k) (inr e) = omega (arith, e.0)
    by (inr k) (inl e) = omega (arith, k.0)
    by (inr k) (inr e) = omega (arith, k.1, e.0)

-- nor has one past 13
pub no-place-late : (n : ℕ) → 13 < n → HasPlace n → ⊥
no-place-late n h of-a-gap = omega arith
no-place-late n h (of-a-rule r) = by (rule-range r)
  where
    by : (n ≡ 3) ⊎ ((10 < n) × (n < 14)) → ⊥
    by (inl e) = omega arith
    by (inr e) = omega (arith, e.1)

-- ---- images that begin alike

pub begins-less : {image image' : List ℕ} {at : ℕ} → BeginsAs image at image' → (less : ℕ) → less ≤ at → BeginsAs image less image'
begins-less b less h = record { reaches = omega arith; same = λ p k. b.same p (omega arith) }

-- a field within the bits that are the same is the same field
pub field-same : (image image' : List ℕ) (at width : ℕ) → BeginsAs image (at + width) image' → field_at image' at width ≡ field_at image at width
unfolding field_at
field-same image image' at zero b = refl
field-same image image' at (suc width) b =
    ap₂ (λ (x y : ℕ). x * 2 + y) (field-same image image' at width (begins-less b (at + width) (omega arith))) (b.same (at + width) (omega arith))

-- ---- what is known of a reader

-- nothing is refused for a field, nor does reading end, before a bit
abbrev pub After : {A : Type 0} → ℕ → Read A → Type 0
After y (read_refused n x) = HasPlace n → y ≤ x
After y (read_got a next) = y ≤ next

-- whatever follows the bits before x, a reader that begins at `from` comes to x and takes a field there
pub record Takes (A : Type 0) (p : Reader A) (image : List ℕ) (from x width : ℕ) (rule : Judgement) : Type 0 where
  pub short : (image' : List ℕ) → BeginsAs image x image' → 8 * length image' < x + width → p image' from ≡ read_refused not_there x
  pub broken : (image' : List ℕ) → BeginsAs image x image' → x + width ≤ 8 * length image' → (n : ℕ) → rule (field_at image' x width) ≡ suc n → p image' from ≡ read_refused (suc n) x
  pub kept : (image' : List ℕ) → BeginsAs image x image' → x + width ≤ 8 * length image' → rule (field_at image' x width) ≡ 0 → After (x + width) (p image' from)

-- why a field is refused
pub data Cause (image : List ℕ) (x width : ℕ) (rule : Judgement) : ℕ → Type 0 where
  lacks : 8 * length image < x + width → Cause image x width rule not_there
  breaks : {n : ℕ} → x + width ≤ 8 * length image → BrokenRule n → rule (field_at image x width) ≡ n → Cause image x width rule n

-- a rule whose tests begin at b and end at x, and of which a variable stands in none of them
pub record Unbound (image : List ℕ) (z : Sizes) (h : Head) (b x : ℕ) : Type 0 where
  pub ts : List Test
  pub read : tests finer z h.variables h.tests image b ≡ read_got ts x
  pub none : every (stands_in ts) (up_from 0 h.variables) ≡ false

-- where a reader stops, to which reading comes: at a field; or between two, where the tests of a rule end
pub data Stop (A : Type 0) (p : Reader A) (image : List ℕ) (from : ℕ) : ℕ → ℕ → Type 1 where
  at_field : {n x : ℕ} (width : ℕ) (rule : Judgement) → (ComesTo image A p from → ComesTo image ℕ (field width rule) x) → 0 < width → width ≤ 16
      → Takes A p image from x width rule → Cause image x width rule n → Stop A p image from n x
  at-tests : {x : ℕ} (version : ℕ) (z : Sizes) (h : Head) (b : ℕ) → (ComesTo image A p from → ComesTo image Rule (body finer version z h) b) → Unbound image z h b x
      → ((image' : List ℕ) → BeginsAs image x image' → p image' from ≡ read_refused bad_variable x) → Stop A p image from bad_variable x

-- no reader goes back
abbrev Forward : (A : Type 0) → Reader A → Type 0
Forward A p = (image : List ℕ) (at : ℕ) → at ≤ 8 * length image → After at (p image at)

-- what is known of every reader, one that comes to the image's end too
pub record Ends (A : Type 0) (p : Reader A) : Type 1 where
  pub forward : Forward A p
  pub stops : (image : List ℕ) (at n x : ℕ) → at ≤ 8 * length image → p image at ≡ read_refused n x → HasPlace n → Stop A p image at n x

-- and of one that reads fields alone
pub record Reads (A : Type 0) (p : Reader A) : Type 1 where
  pub within : Within A p
  -- what is read depends on the bits read alone
  pub goes : (image : List ℕ) (at : ℕ) (a : A) (next : ℕ) → at ≤ 8 * length image → p image at ≡ read_got a next → (image' : List ℕ) → BeginsAs image next image' → p image' at ≡ read_got a next
  pub stops : (image : List ℕ) (at n x : ℕ) → at ≤ 8 * length image → p image at ≡ read_refused n x → Stop A p image at n x

reads-ends : (A : Type 0) (p : Reader A) → Reads A p → Ends A p
reads-ends A p r =
    record {
      forward = λ image at h. by image at h (p image at) refl;
      stops = λ image at n x h e k. r.stops image at n x h e;
    }
  where
    by : (image : List ℕ) (at : ℕ) → at ≤ 8 * length image → (v : Read A) → p image at ≡ v → After at v
    by image at h (read_refused n x) e = λ k. (r.within.refused image at n x h e).0
    by image at h (read_got a next) e = (r.within.got image at a next h e).0

give-reads : (A : Type 0) (a : A) → Reads A (give a)
give-reads A a =
    record {
      within = give-within A a;
      goes = λ image at b next h e image' same. e;
      stops = λ image at n x h e. absurd (no-got n x a at (sym e));
    }

-- ---- one thing after the other

module _ (A B : Type 0) (p : Reader A) (k : A → Reader B) (first : Reads A p) (second : (a : A) → Forward B (k a)) where
  -- what comes after a bit still does if more is read
  then-after : (image : List ℕ) (at y : ℕ) → at ≤ 8 * length image → After y (p image at) → After y (and_then p k image at)
  then-after image at y h l = by (p image at) refl l
    where
      on : (next : ℕ) → y ≤ next → (r : Read B) → After next r → After y r
      on next m (read_refused n x) g = λ k. omega (arith, g k)
      on next m (read_got b end) g = omega arith

      by : (r : Read A) → p image at ≡ r → After y r → After y (follow r (λ a after. k a image after))
      by (read_refused n x) q m = m
      by (read_got a next) q m = on next m (k a image next) (second a image next (first.within.got image at a next h q).1)

  -- where the first stops, both do
  first-stop : (image : List ℕ) (at n x : ℕ) → at ≤ 8 * length image → at ≤ x → Stop A p image at n x → Stop B (and_then p k) image at n x
  first-stop image at n x h l (at_field width rule comes some narrow takes cause) =
      at_field width rule (λ c. comes (into p k c)) some narrow
      (record {
        short = λ image' b g. rw (takes.short image' b g) refl;
        broken = λ image' b g j e. rw (takes.broken image' b g j e) refl;
        kept = λ image' b g e. then-after image' at (x + width) (omega (arith, b.reaches)) (takes.kept image' b g e);
      }) cause
  first-stop image at n x h l (at-tests version z d b comes unbound stays) =
      at-tests version z d b (λ c. comes (into p k c)) unbound (λ image' s. rw (stays image' s) refl)

  -- where the second stops after the first went well, both do
  second-stop : (image : List ℕ) (at n x : ℕ) (a : A) (next : ℕ) → at ≤ 8 * length image → p image at ≡ read_got a next → next ≤ x → Stop B (k a) image next n x → Stop B (and_then p k) image at n x
  second-stop image at n x a next h e l (at_field width rule comes some narrow takes cause) =
      at_field width rule (λ c. comes (past p k c e)) some narrow
      (record {
        short = λ image' b g. rw (first.goes image at a next h e image' (begins-less b next l)) (takes.short image' b g);
        broken = λ image' b g j f. rw (first.goes image at a next h e image' (begins-less b next l)) (takes.broken image' b g j f);
        kept = λ image' b g f. rw (first.goes image at a next h e image' (begins-less b next l)) (takes.kept image' b g f);
      }) cause
  second-stop image at n x a next h e l (at-tests version z d b comes unbound stays) =
      at-tests version z d b (λ c. comes (past p k c e)) unbound
      (λ image' s. rw (first.goes image at a next h e image' (begins-less s next l)) (stays image' s))

module _ (A B : Type 0) (p : Reader A) (k : A → Reader B) (first : Reads A p) (second : (a : A) → Ends B (k a)) where
  ahead : (a : A) → Forward B (k a)
  ahead a = (second a).forward

  then-stops : (image : List ℕ) (at n x : ℕ) → at ≤ 8 * length image → (r : Read A) → p image at ≡ r → follow r (λ a after. k a image after) ≡ read_refused n x → HasPlace n
      → Stop B (and_then p k) image at n x
  then-stops image at n x h (read_refused n' x') q e placed =
      let f : p image at ≡ read_refused n x = q ∙ cc in
      first-stop A B p k first ahead image at n x h (first.within.refused image at n x h f).0 (first.stops image at n x h f)
  then-stops image at n x h (read_got a next) q e placed =
      let g = (first.within.got image at a next h q).1 in
      let l : next ≤ x = (rw e at ((second a).forward image next g)) placed in
      second-stop A B p k first ahead image at n x a next h q l ((second a).stops image next n x g e placed)

  then-forward : (image : List ℕ) (at : ℕ) → at ≤ 8 * length image → After at (and_then p k image at)
  then-forward image at h = then-after A B p k first ahead image at at h ((reads-ends A p first).forward image at h)

  pub then-ends : Ends B (and_then p k)
  then-ends = record { forward = then-forward; stops = λ image at n x h e placed. then-stops image at n x h (p image at) refl e placed }

module _ (A B : Type 0) (p : Reader A) (k : A → Reader B) (first : Reads A p) (second : (a : A) → Reads B (k a)) where
  ahead_of : (a : A) → Forward B (k a)
  ahead_of a = (reads-ends B (k a) (second a)).forward

  both-stop : (image : List ℕ) (at n x : ℕ) → at ≤ 8 * length image → (r : Read A) → p image at ≡ r → follow r (λ a after. k a image after) ≡ read_refused n x → Stop B (and_then p k) image at n x
  both-stop image at n x h (read_refused n' x') q e =
      let f : p image at ≡ read_refused n x = q ∙ cc in
      first-stop A B p k first ahead_of image at n x h (first.within.refused image at n x h f).0 (first.stops image at n x h f)
  both-stop image at n x h (read_got a next) q e =
      let g = (first.within.got image at a next h q).1 in
      second-stop A B p k first ahead_of image at n x a next h q ((second a).within.refused image next n x g e).0 ((second a).stops image next n x g e)

  both_go : (image : List ℕ) (at : ℕ) (b : B) (end : ℕ) → at ≤ 8 * length image → and_then p k image at ≡ read_got b end → (image' : List ℕ) → BeginsAs image end image' → and_then p k image' at ≡ read_got b end
  both_go image at b end h e image' same =
      split (p image at) _ e λ a n₁ e₁ k₁.
      let g = (first.within.got image at a n₁ h e₁).1 in
      rw (first.goes image at a n₁ h e₁ image' (begins-less same n₁ ((second a).within.got image n₁ b end g k₁).0))
      ((second a).goes image n₁ b end g k₁ image' same)

  then-reads : Reads B (and_then p k)
  then-reads =
      record {
        within = then-within A B p k first.within (λ a. (second a).within);
        goes = both_go;
        stops = λ image at n x h e. both-stop image at n x h (p image at) refl e;
      }

-- ---- a field

-- a rule says 0 or one of its numbers
abbrev Says : ℕ → Type 0
Says j = (j ≡ 0) ⊎ BrokenRule j

says-else : (j k : ℕ) → Says j → Says k → Says (or_else j k)
says-else zero k h g = g
says-else (suc j) k h g = h

says : (r : FieldRule) (v : ℕ) → Says (judgement finer r v)
says free v = inl refl
says (of_number holds) v = elim (holds v) as (λ t. Says (if t then 0 else bad_number)) [ true ↦ inl refl | false ↦ inr of-a-number ]
says (of_mask holds) v = elim (holds v) as (λ t. Says (if t then 0 else bad_mask)) [ true ↦ inl refl | false ↦ inr of-a-mask ]
says (of-variable holds) v = elim (holds v) as (λ t. Says (if t then 0 else bad_variable)) [ true ↦ inl refl | false ↦ inr of-a-variable ]
says (of-buffer holds) v = elim (holds v) as (λ t. Says (if t then 0 else bad_buffer)) [ true ↦ inl refl | false ↦ inr of-a-buffer ]
says (both a b) v = says-else (judgement finer a v) (judgement finer b v) (says a v) (says b v)

module _ (width : ℕ) (some : 0 < width) (narrow : width ≤ 16) (r : FieldRule) where
  abbrev judge : Judgement
  judge = judgement finer r

  field-takes : (image : List ℕ) (at : ℕ) → Takes ℕ (field width judge) image at at width judge
  field-takes image at =
      record {
        short = λ image' b h. field-short width judge image' at h;
        broken = λ image' b h n e. field-broken width judge image' at n h e;
        kept = λ image' b h e. rw (field-kept width judge image' at h e) (omega arith);
      }

  field-stops : (image : List ℕ) (at n x : ℕ) → field width judge image at ≡ read_refused n x → Stop ℕ (field width judge) image at n x
  field-stops image at n x e = let f = field-refused width judge image at n x e in rw f.first (at_field width judge (λ c. c) some narrow (field-takes image at) (cause f.cause))
    where
      cause : ((8 * length image < at + width) × (n ≡ not_there)) ⊎ ((at + width ≤ 8 * length image) × (0 < n) × (judge (field_at image at width) ≡ n)) → Cause image at width judge n
      cause (inl c) = rw c.1 (lacks c.0)
      cause (inr c) =
          ⊎_elim (λ (z : judge (field_at image at width) ≡ 0). absurd (omega (arith, c.1, c.2)))
          (λ (z : BrokenRule (judge (field_at image at width))). breaks c.0 (rw c.2 at z) c.2) (says r (field_at image at width))

  field-goes : (image : List ℕ) (at v next : ℕ) → field width judge image at ≡ read_got v next → (image' : List ℕ) → BeginsAs image next image' → field width judge image' at ≡ read_got v next
  field-goes image at v next e image' b =
      let f = field-got width judge image at v next e in
      let s : field_at image' at width ≡ v = field-same image image' at width (rw f.after at b) ∙ sym f.is in
      field-kept width judge image' at (omega (arith, f.after, b.reaches)) (ap judge s ∙ f.kept) ∙ ap₂ (λ (x y : ℕ). read_got x y) s (sym f.after)

  field-reads : Reads ℕ (field width judge)
  field-reads =
      record {
        within = field-within width judge;
        goes = λ image at v next h e image' b. field-goes image at v next e image' b;
        stops = λ image at n x h e. field-stops image at n x e;
      }

-- ---- a rule's tests, the check on its variables, its queries, and its actions

module _ (version : ℕ) (z : Sizes) (h : Head) (tested : Reads (List Test) (tests finer z h.variables h.tests))
    (asked : Reads (List Query) (queries finer version z.buffers h.tests))
    (acted : (ts : List Test) → Reads (List Action) (actions finer z h.variables ts h.actions)) where
  abbrev acts : List Test → List Query → Reader Rule
  acts ts qs = and_then (actions finer z h.variables ts h.actions) (λ as'. give (record { utility = utility_of h.utility; tests = ts; queries = qs; actions = as' }))

  abbrev asks_acts : List Test → Reader Rule
  asks_acts ts = and_then (queries finer version z.buffers h.tests) (acts ts)

  -- what follows the tests, by whether every variable stood in one
  abbrev checked : List Test → Bool → Reader Rule
  checked ts t = next (require bad_variable t) (asks_acts ts)

  abbrev stood : List Test → Bool
  stood ts = every (stands_in ts) (up_from 0 h.variables)

  rest-reads : (ts : List Test) → Reads Rule (asks_acts ts)
  rest-reads ts = then-reads (List Query) Rule _ _ asked (λ qs. then-reads (List Action) Rule _ _ (acted ts) (λ as'. give-reads Rule _))

  checked-ahead : (ts : List Test) (t : Bool) → Forward Rule (checked ts t)
  checked-ahead ts true = (reads-ends Rule (asks_acts ts) (rest-reads ts)).forward
  checked-ahead ts false = λ image at l. λ k. omega arith

  checked-goes : (ts : List Test) (t : Bool) (image : List ℕ) (at : ℕ) (r : Rule) (end : ℕ) → at ≤ 8 * length image → checked ts t image at ≡ read_got r end
      → (image' : List ℕ) → BeginsAs image end image' → checked ts t image' at ≡ read_got r end
  checked-goes ts true image at r end l e = (rest-reads ts).goes image at r end l e
  checked-goes ts false image at r end l e = absurd (no-got bad_variable at r end e)

  body-goes : (image : List ℕ) (at : ℕ) (r : Rule) (end : ℕ) → at ≤ 8 * length image → body finer version z h image at ≡ read_got r end → (image' : List ℕ)
      → BeginsAs image end image' → body finer version z h image' at ≡ read_got r end
  unfolding body
  body-goes image at r end l e image' same =
      split (tests finer z h.variables h.tests image at) _ e λ ts n₁ e₁ k₁.
      let w = (tested.within.got image at ts n₁ l e₁).1 in
      let f : n₁ ≤ end = rw k₁ at (checked-ahead ts (stood ts) image n₁ w) in
      rw (tested.goes image at ts n₁ l e₁ image' (begins-less same n₁ f)) (checked-goes ts (stood ts) image n₁ r end w k₁ image' same)

  -- it stops at a test, where the tests end, at a query or its count, or at an action
  body-stops : (image : List ℕ) (at n x : ℕ) → at ≤ 8 * length image → body finer version z h image at ≡ read_refused n x → Stop Rule (body finer version z h) image at n x
  unfolding body
  body-stops image at n x l e = by (tests finer z h.variables h.tests image at) refl e
    where
      ahead-of-tests : (ts : List Test) → Forward Rule (checked ts (stood ts))
      ahead-of-tests ts = checked-ahead ts (stood ts)

      after : (ts : List Test) (mid : ℕ) → tests finer z h.variables h.tests image at ≡ read_got ts mid → (t : Bool) → stood ts ≡ t → checked ts t image mid ≡ read_refused n x
          → Stop Rule (body finer version z h) image at n x
      after ts mid q true u k =
          let w = (tested.within.got image at ts mid l q).1 in
          let later : Stop Rule (checked ts (stood ts)) image mid n x = rw u ((rest-reads ts).stops image mid n x w k) in
          second-stop (List Test) Rule _ (λ ts. checked ts (stood ts)) tested ahead-of-tests image at n x ts mid l q ((rest-reads ts).within.refused image mid n x w k).0 later
      after ts mid q false u k =
          let a : mid ≡ x = cc in
          let b : bad_variable ≡ n = cc in
          rw (← a, ← b) (at-tests version z h at (λ c. c) (record { ts = ts; read = q; none = u }) (λ image' s. rw (tested.goes image at ts mid l q image' s, u) refl))

      by : (r : Read (List Test)) → tests finer z h.variables h.tests image at ≡ r → follow r (λ ts mid. checked ts (stood ts) image mid) ≡ read_refused n x
          → Stop Rule (body finer version z h) image at n x
      by (read_refused n' x') q k =
          let f : tests finer z h.variables h.tests image at ≡ read_refused n x = q ∙ cc in
          first-stop (List Test) Rule _ (λ ts. checked ts (stood ts)) tested ahead-of-tests image at n x l (tested.within.refused image at n x l f).0 (tested.stops image at n x l f)
      by (read_got ts mid) q k = after ts mid q (stood ts) refl k

  body_reads : Reads Rule (body finer version z h)
  body_reads = record { within = body-within finer version z h tested.within asked.within (λ ts. (acted ts).within); goes = body-goes; stops = body-stops }

-- ---- all fields of an image

reads-each : EachField finer finer (λ A p p'. Reads A p)
reads-each = record { gives = give-reads; follows = λ A B p p' k k' h g. then-reads A B p k h g; fields = field-reads; bodies = body_reads }

pub all-reads : Reads Model (all_fields finer)
all-reads = all-each finer finer (λ A p p'. Reads A p) reads-each

-- ---- and the image's end, which refuses no field

end-ends : (A : Type 0) (a : A) → Ends A (next ending (give a))
unfolding ending
end-ends A a =
    record {
      forward = λ image at h. forward (ends_well image at) at;
      stops = λ image at n x h e placed. absurd (stops (ends_well image at) at n x e placed);
    }
  where
    forward : (t : Bool) (at : ℕ) → After at (follow (ended_by at t) (λ u end. read_got a end))
    forward true at = omega arith
    forward false at = λ placed. absurd (no_place bad_end (inr (omega arith, omega arith)) placed)

    stops : (t : Bool) (at n x : ℕ) → follow (ended_by at t) (λ u end. read_got a end) ≡ read_refused n x → HasPlace n → ⊥
    stops true at n x e placed = no-got n x a at (sym e)
    stops false at n x e placed = let four : bad_end ≡ n = cc in no_place n (inr (omega arith, omega arith)) placed

-- what is made of all that was read
module _ (A B : Type 0) (p : Reader A) (f : A → B) (ends : Ends A p) where
  made_after : (y : ℕ) (image : List ℕ) (r : Read A) → After y r → After y (follow r (λ a end. give (f a) image end))
  made_after y image (read_refused n x) h = h
  made_after y image (read_got a next) h = h

  made-refused : (image : List ℕ) (n x : ℕ) (r : Read A) → follow r (λ a end. give (f a) image end) ≡ read_refused n x → r ≡ read_refused n x
  made-refused image n x (read_refused n' x') e = cc
  made-refused image n x (read_got a end) e = absurd (no-got n x (f a) end (sym e))

  made-stop : (image : List ℕ) (at n x : ℕ) → Stop A p image at n x → Stop B (and_then p (λ a. give (f a))) image at n x
  made-stop image at n x (at_field width rule comes some narrow takes cause) =
      at_field width rule (λ c. comes (into p (λ a. give (f a)) c)) some narrow
      (record {
        short = λ image' b g. rw (takes.short image' b g) refl;
        broken = λ image' b g j e. rw (takes.broken image' b g j e) refl;
        kept = λ image' b g e. made_after (x + width) image' (p image' at) (takes.kept image' b g e);
      }) cause
  made-stop image at n x (at-tests version z d b comes unbound stays) =
      at-tests version z d b (λ c. comes (into p (λ a. give (f a)) c)) unbound (λ image' s. rw (stays image' s) refl)

  made_ends : Ends B (and_then p (λ a. give (f a)))
  made_ends =
      record {
        forward = λ image at h. made_after at image (p image at) (ends.forward image at h);
        stops = λ image at n x h e placed. made-stop image at n x (ends.stops image at n x h (made-refused image n x (p image at) e) placed);
      }

times-read : (A : Type 0) (p : Reader A) → Reads A p → (n : ℕ) → Reads (List A) (times n p)
times-read A p = times-each finer finer (λ A p p'. Reads A p) reads-each A p p

contents-ends : (version : ℕ) (z : Sizes) (n m : ℕ) → Ends Contents (contents finer version z n m)
unfolding contents
contents-ends version z n m =
    then-ends (List Fact) Contents _ _ (times-read Fact (fact finer z.types) (fact-each finer finer (λ A p p'. Reads A p) reads-each z.types) n) λ facts.
    then-ends (List Rule) Contents _ _ (times-read Rule (rule finer version z) (rule-each finer finer (λ A p p'. Reads A p) reads-each version z) m) λ rules.
    end-ends Contents _

pub model-ends : Ends Model (model finer)
unfolding model
model-ends =
    then-ends Beginning Model _ _ (beginning-each finer finer (λ A p p'. Reads A p) reads-each) λ b.
    made_ends Contents Model _ _ (contents-ends b.head.version (record { buffers = b.head.buffers; types = b.types }) b.head.facts b.head.rules)
