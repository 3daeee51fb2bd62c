-- Where an image is refused: what the calls look at is the reading of all fields and then the end, so what is known of the fields is known of the image.
use Rattle.std.specs.Prelude.{◌≡◌, ◌⊎◌, Bool, ◌&&◌, List, ◌++◌, ℕ, zero, suc, ◌+◌, ◌*◌, ◌/◌, ◌%◌, ◌-◌, ◌^◌, ◌≤◌, ◌<◌}
use Rattle.std.proofs.Math.Path.{refl}
use Rattle.std.proofs.Common.{sym, ap, subst, ◌∙◌, inl, inr, arith, length-append}
use Rattle.std.proofs.Math.Bool.{true, false}
use borrow.Author.Tests.{lt-ltb, le-ltb, eqb-false, ne_eqb}
use Rattle.std.proofs.Math.Dec.{eqb}
use Rattle.std.proofs.Math.ListN.{length, get_or-append}
use Rattle.meaning.specs.Numbers.{finer, too_long, not_there, bad_variable, bad_end}
use Rattle.meaning.specs.Model.{Model}
use Rattle.meaning.specs.Bits.{field_at}
use Rattle.meaning.specs.Read.{Read, read_refused, read_got, Judgement, field}
use Rattle.meaning.specs.Image.{padding, ending, model, decode_by, decode}
use Rattle.laws.specs.BaseLaws.{by-lt}
use Rattle.laws.specs.ReadLaws.{no-got, field-short, field-broken}
use Rattle.laws.specs.FieldLaws.{all_fields, at_end, model-fields}
use Rattle.laws.specs.PlaceLaws.{ended_by, end_refused, at-end-refused}
use Rattle.promises.specs.Sentences.{BrokenRule, of-a-variable, Stops, missing, broken, unbound, unended}
use Rattle.promises.specs.Places.{HasPlace, of-a-gap, of-a-rule, Located, somewhere, nowhere, begins, BeginsAs, WhateverFollows, FieldAtBit, TestsEndAt}
use Rattle.promises.proofs.Proofs.Reading.{above, no_place, After, Cause, lacks, breaks, Stop, at_field, at-tests, field-same, all-reads, model-ends}

-- ---- an image, and the reading of its fields

module _ (image : List ℕ) where
  pub decode-long : 65536 < length image → decode image ≡ read_refused too_long 0
  unfolding decode_by
  decode-long h = rw (lt-ltb 65536 (length image) h) refl

  pub decode-short : length image ≤ 65536 → decode image ≡ model finer image 0
  unfolding decode_by
  decode-short h = rw (le-ltb 65536 (length image) h) refl

  -- an image that is accepted is not too long, and its fields read so
  pub decode-got : (m : Model) (end : ℕ) → decode image ≡ read_got m end → (length image ≤ 65536) × (model finer image 0 ≡ read_got m end)
  decode-got m end d =
      by-lt 65536 (length image) (λ h. absurd (no-got too_long 0 m end (sym (decode-long h) ∙ d))) (λ h. (h, sym (decode-short h) ∙ d))

  abbrev fields : Read Model
  fields = all_fields finer image 0

  -- where the fields are refused the image is, there and so
  pub fields-refused : (n x : ℕ) → fields ≡ read_refused n x → model finer image 0 ≡ read_refused n x
  fields-refused n x e = model-fields finer image 0 ∙ ap (at_end image) e

  -- and where the image is refused by a number with a place, the fields are
  pub refused-fields : (n x : ℕ) → model finer image 0 ≡ read_refused n x → HasPlace n → fields ≡ read_refused n x
  refused-fields n x e h = by fields (sym (model-fields finer image 0) ∙ e)
    where
      by : (r : Read Model) → at_end image r ≡ read_refused n x → r ≡ read_refused n x
      by (read_refused n' x') k = cc
      by (read_got m at) k =
          let four = (end_refused image at n x (at-end-refused image m at n x k)).0 in
          absurd (no_place n (inr (omega arith, omega arith)) h)

  pub decode-fields : (n x : ℕ) → decode image ≡ read_refused n x → HasPlace n → (length image ≤ 65536) × (fields ≡ read_refused n x)
  decode-fields n x d h =
      by-lt 65536 (length image)
      (λ l. absurd (no_place n (inl (omega (arith, long l))) h))
      (λ l. (l, refused-fields n x (sym (decode-short l) ∙ d) h))
    where
      long : 65536 < length image → n ≡ 1
      long l = let e : read_refused too_long 0 ≡ read_refused n x = sym (decode-long l) ∙ d in cc

-- ---- how an image is refused

stop-place : {image : List ℕ} {n x : ℕ} → Stop Model (all_fields finer) image 0 n x → HasPlace n
stop-place (at_field w r c a b t (lacks h)) = of-a-gap
stop-place (at_field w r c a b t (breaks h k e)) = of-a-rule k
stop-place (at-tests version z h b c u s) = of-a-rule of-a-variable

stop-stops : {image : List ℕ} {n x : ℕ} → x ≤ 8 * length image → Stop Model (all_fields finer) image 0 n x → Stops image x n
stop-stops l (at_field w r c a b t (lacks h)) = missing w b l h
stop-stops l (at_field w r c a b t (breaks h k e)) = broken w a b h k
stop-stops l (at-tests version z h b c u s) = unbound l

module _ (image : List ℕ) where
  pub fields-stop : (n x : ℕ) → all_fields finer image 0 ≡ read_refused n x → Stop Model (all_fields finer) image 0 n x
  fields-stop n x e = all-reads.stops image 0 n x (omega arith) e

  -- why an image does not end as it must
  ending-stops : (at n x : ℕ) → at ≤ 8 * length image → ending image at ≡ read_refused n x → Stops image x n
  unfolding ending
  ending-stops at n x h e = by (eqb (field_at image at (padding at)) 0) (eqb (at + padding at) (8 * length image)) refl refl e
    where
      by : (t u : Bool) → eqb (field_at image at (padding at)) 0 ≡ t → eqb (at + padding at) (8 * length image) ≡ u → ended_by at (t && u) ≡ read_refused n x → Stops image x n
      by true true t u k = absurd (no-got n x tt at (sym k))
      by true false t u k =
          let a : 0 ≡ x = cc in
          let b : 4 ≡ n = cc in
          rw (← a, ← b) (unended at h (inr (omega (arith, eqb-false (at + padding at) (8 * length image) u))))
      by false u t v k =
          let a : 0 ≡ x = cc in
          let b : 4 ≡ n = cc in
          rw (← a, ← b) (unended at h (inl (eqb-false (field_at image at (padding at)) 0 t)))

  pub model-stops : (n x : ℕ) → model finer image 0 ≡ read_refused n x → Stops image x n
  model-stops n x e = by (all_fields finer image 0) refl (sym (model-fields finer image 0) ∙ e)
    where
      by : (r : Read Model) → all_fields finer image 0 ≡ r → at_end image r ≡ read_refused n x → Stops image x n
      by (read_refused n' x') q k =
          let f : all_fields finer image 0 ≡ read_refused n x = q ∙ cc in
          stop-stops (all-reads.within.refused image 0 n x (omega arith) f).1 (fields-stop n x f)
      by (read_got m at) q k = ending-stops at n x (all-reads.within.got image 0 m at (omega arith) q).1 (at-end-refused image m at n x k)

  -- the position of a refusal: a field's, or 0
  pub refused-located : (n x : ℕ) → decode image ≡ read_refused n x → Located image n x
  refused-located n x d =
      by-lt 65536 (length image)
      (λ l. let e : read_refused too_long 0 ≡ read_refused n x = sym (decode-long image l) ∙ d in let a : 0 ≡ x = cc in let b : 1 ≡ n = cc in rw (← a, ← b) (nowhere (no_place 1 (inl (omega arith)))))
      (λ l. by (all_fields finer image 0) refl (sym (model-fields finer image 0) ∙ sym (decode-short image l) ∙ d))
    where
      by : (r : Read Model) → all_fields finer image 0 ≡ r → at_end image r ≡ read_refused n x → Located image n x
      by (read_refused n' x') q k = somewhere d (stop-place (fields-stop n x (q ∙ cc)))
      by (read_got m at) q k =
          let e = end_refused image at n x (at-end-refused image m at n x k) in
          rw (e.0, e.1) (nowhere (no_place 4 (inr (omega arith, omega arith))))

-- ---- whatever follows

-- what a model is refused by, the image is, as far as its length allows
model-decode : (image' : List ℕ) → length image' ≤ 65536 → (k y : ℕ) → model finer image' 0 ≡ read_refused k y → decode image' ≡ read_refused k y
model-decode image' l k y e = decode-short image' l ∙ e

after-refused : (image' : List ℕ) → length image' ≤ 65536 → (y : ℕ) → After y (model finer image' 0) → (k z : ℕ) → decode image' ≡ read_refused k z → HasPlace k → y ≤ z
after-refused image' l y a k z d h = subst (After y) (sym (decode-short image' l) ∙ d) a h

-- a field is refused by its cause
cause-refused : (image : List ℕ) (x width : ℕ) (rule : Judgement) {n : ℕ} → Cause image x width rule n → field width rule image x ≡ read_refused n x
cause-refused image x width rule (lacks h) = field-short width rule image x h
cause-refused image x width rule {n} (breaks h k e) = by n (above k) e
  where
    by : (j : ℕ) → 2 < j → rule (field_at image x width) ≡ j → field width rule image x ≡ read_refused j x
    by zero a q = absurd (omega arith)
    by (suc j) a q = field-broken width rule image x j h q

cause-inside : (image : List ℕ) (x width : ℕ) (rule : Judgement) {n : ℕ} → 0 < width → Cause image x width rule n → (n ≡ not_there) ⊎ (x < 8 * length image)
cause-inside image x width rule some (lacks h) = inl refl
cause-inside image x width rule some (breaks h k e) = inr (omega arith)

-- the two ways to stop, as the statements have them
data Told (image : List ℕ) (n x : ℕ) : Type 1 where
  of_field : FieldAtBit image n x → (n ≡ not_there) ⊎ (x < 8 * length image) → Told image n x
  of-tests : n ≡ bad_variable → TestsEndAt image x → Told image n x

stop-told : {image : List ℕ} {n x : ℕ} → Stop Model (model finer) image 0 n x → Told image n x
stop-told {image} {n} {x} (at_field width rule comes some narrow takes cause) =
    of_field
    (record {
      width = width;
      rule = rule;
      comes = comes begins;
      refused = cause-refused image x width rule cause;
      some = some;
      narrow = narrow;
      short = λ image' l b h. model-decode image' l not_there x (takes.short image' b h);
      broken = λ image' l b h k e. model-decode image' l (suc k) x (takes.broken image' b h k e);
      kept = λ image' l b h e. after-refused image' l (x + width) (takes.kept image' b h e);
    }) (cause-inside image x width rule some cause)
stop-told {image} {n} {x} (at-tests version z d b comes free stays) =
    of-tests refl
    (record {
      version = version;
      sizes = z;
      head = d;
      tests_at = b;
      ts = free.ts;
      comes = comes begins;
      tests_read = free.read;
      in_none = free.none;
      stays = λ image' l s. model-decode image' l bad_variable x (stays image' s);
    })

module _ (image : List ℕ) (n x : ℕ) (refused : decode image ≡ read_refused n x) (placed : HasPlace n) where
  told : Told image n x
  told =
      let d = decode-fields image n x refused placed in
      stop-told (model-ends.stops image 0 n x (omega arith) (fields-refused image n x d.1) placed)

  pub position_first : FieldAtBit image n x ⊎ ((n ≡ bad_variable) × TestsEndAt image x)
  position_first = by told
    where
      by : Told image n x → FieldAtBit image n x ⊎ ((n ≡ bad_variable) × TestsEndAt image x)
      by (of_field f i) = inl f
      by (of-tests e t) = inr (e, t)

  -- within the image, but for 2 and for tests that end with it
  pub position-inside : (n ≡ not_there) ⊎ ((x < 8 * length image) ⊎ ((n ≡ bad_variable) × TestsEndAt image x))
  position-inside = by told
    where
      by : Told image n x → (n ≡ not_there) ⊎ ((x < 8 * length image) ⊎ ((n ≡ bad_variable) × TestsEndAt image x))
      by (of_field f (inl i)) = inl i
      by (of_field f (inr i)) = inr (inl i)
      by (of-tests e t) = inr (inr (e, t))

  -- nothing is refused before it
  pub in_order : WhateverFollows image x λ image'. (k y : ℕ) → decode image' ≡ read_refused k y → HasPlace k → x ≤ y
  in_order image' l b k y d h = by position_first
    where
      same_place : (a c : ℕ) → decode image' ≡ read_refused a c → y ≡ c
      same_place a c e = let z : read_refused k y ≡ read_refused a c = sym d ∙ e in cc

      judged-by : (f : FieldAtBit image n x) → x + f.width ≤ 8 * length image' → (j : ℕ) → f.rule (field_at image' x f.width) ≡ j → x ≤ y
      judged-by f g zero e = omega (arith, f.kept image' l b g e k y d h)
      judged-by f g (suc j) e = omega (arith, same_place (suc j) x (f.broken image' l b g j e))

      by : FieldAtBit image n x ⊎ ((n ≡ bad_variable) × TestsEndAt image x) → x ≤ y
      by (inl f) =
          by-lt (8 * length image') (x + f.width) (λ g. omega (arith, same_place 2 x (f.short image' l b g)))
          (λ g. judged-by f g (f.rule (field_at image' x f.width)) refl)
      by (inr t) = omega (arith, same_place bad_variable x (t.1.stays image' l b))

-- ---- bytes that follow

begins-longer : (image rest : List ℕ) (at : ℕ) → at ≤ 8 * length image → BeginsAs image at (image ++ rest)
begins-longer image rest at h =
    record {
      reaches = omega (arith, length-append image rest);
      same = λ p k. ap (λ (byte : ℕ). byte / 2 ^ (7 - p % 8) % 2) (get_or-append image rest 0 (p / 8) (omega arith));
    }

-- an image that does not end as it must is not accepted
ending-on : (image rest : List ℕ) (at : ℕ) → at ≤ 8 * length image → 0 < length rest → ending (image ++ rest) at ≡ read_refused bad_end 0
unfolding ending
ending-on image rest at h l =
    rw (ne_eqb (at + padding at) (8 * length (image ++ rest)) (λ (e : at + padding at ≡ 8 * length (image ++ rest)). omega (arith, length-append image rest)))
    (by (eqb (field_at (image ++ rest) at (padding at)) 0))
  where
    by : (t : Bool) → ended_by at (t && false) ≡ read_refused bad_end 0
    by true = refl
    by false = refl

module _ (image rest : List ℕ) where
  -- a broken rule stays broken
  longer-refused : {n x : ℕ} → x ≤ 8 * length image → BrokenRule n → Stop Model (all_fields finer) image 0 n x → all_fields finer (image ++ rest) 0 ≡ read_refused n x
  longer-refused l k (at_field width rule comes some narrow takes (lacks h)) = absurd (omega (arith, above k))
  longer-refused {n} {x} l k (at_field width rule comes some narrow takes (breaks h g e)) = by n (above k) refl
    where
      by : (j : ℕ) → 2 < j → n ≡ j → all_fields finer (image ++ rest) 0 ≡ read_refused n x
      by zero a q = absurd (omega arith)
      by (suc j) a q =
          let same : field_at (image ++ rest) x width ≡ field_at image x width = field-same image (image ++ rest) x width (begins-longer image rest (x + width) h) in
          rw q (takes.broken (image ++ rest) (begins-longer image rest x l) (omega (arith, length-append image rest)) j (ap rule same ∙ e ∙ q))
  longer-refused {n} {x} l k (at-tests version z d b comes free stays) = stays (image ++ rest) (begins-longer image rest x l)

  -- what was read stays read, and then something follows
  longer-read : 0 < length rest → (m : Model) (end : ℕ) → all_fields finer image 0 ≡ read_got m end → model finer (image ++ rest) 0 ≡ read_refused bad_end 0
  longer-read l m end e =
      let w = (all-reads.within.got image 0 m end (omega arith) e).1 in
      let same : all_fields finer (image ++ rest) 0 ≡ read_got m end = all-reads.goes image 0 m end (omega arith) e (image ++ rest) (begins-longer image rest end w) in
      model-fields finer (image ++ rest) 0 ∙ ap (at_end (image ++ rest)) same ∙ rw (ending-on image rest end w l) refl

  -- a beginning of an accepted image lacks a field
  pub cut_short : 0 < length rest → (m : Model) (end : ℕ) → decode (image ++ rest) ≡ read_got m end → (at : ℕ) × (decode image ≡ read_refused not_there at)
  cut_short l m end d = by (all_fields finer image 0) refl
    where
      whole : (length (image ++ rest) ≤ 65536) × (model finer (image ++ rest) 0 ≡ read_got m end)
      whole = decode-got (image ++ rest) m end d

      short : length image ≤ 65536
      short = omega (arith, whole.0, length-append image rest)

      lacking : (n x : ℕ) → HasPlace n → all_fields finer image 0 ≡ read_refused n x → (at : ℕ) × (decode image ≡ read_refused not_there at)
      lacking n x of-a-gap q = (x, decode-short image short ∙ fields-refused image 2 x q)
      lacking n x (of-a-rule k) q =
          let f = longer-refused (all-reads.within.refused image 0 n x (omega arith) q).1 k (fields-stop image n x q) in
          absurd (no-got n x m end (sym (fields-refused (image ++ rest) n x f) ∙ whole.1))

      by : (r : Read Model) → all_fields finer image 0 ≡ r → (at : ℕ) × (decode image ≡ read_refused not_there at)
      by (read_refused n x) q = lacking n x (stop-place (fields-stop image n x q)) q
      by (read_got m' e) q = absurd (no-got bad_end 0 m end (sym (longer-read l m' e q) ∙ whole.1))

  -- an accepted image is refused by 4 if anything follows
  pub accepted-longer : 0 < length rest → length (image ++ rest) ≤ 65536 → (m : Model) (end : ℕ) → decode image ≡ read_got m end → decode (image ++ rest) ≡ read_refused bad_end 0
  accepted-longer something short m end d = by (all_fields finer image 0) refl
    where
      by : (r : Read Model) → all_fields finer image 0 ≡ r → decode (image ++ rest) ≡ read_refused bad_end 0
      by (read_refused n x) q = absurd (no-got n x m end (sym (decode-short image (omega (arith, length-append image rest)) ∙ fields-refused image n x q) ∙ d))
      by (read_got m' e) q = decode-short (image ++ rest) short ∙ longer-read something m' e q

  -- an image that is refused for a broken rule is refused so there whatever follows
  pub broken-longer : length (image ++ rest) ≤ 65536 → (n at : ℕ) → BrokenRule n → decode image ≡ read_refused n at → decode (image ++ rest) ≡ read_refused n at
  broken-longer short n at k d =
      let f = (decode-fields image n at d (of-a-rule k)).1 in
      let l = (all-reads.within.refused image 0 n at (omega arith) f).1 in
      decode-short (image ++ rest) short ∙ fields-refused (image ++ rest) n at (longer-refused l k (fields-stop image n at f))
