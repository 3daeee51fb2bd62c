-- An accepted image of version 1 written as one of version 2: the bits of its fields with another version, and a query count of 0 after the tests of each rule.
use Rattle.std.specs.Prelude.{if◌then◌else◌, ◌≡◌, refl, Bool, true, false, List, [], ◌∷◌, ◌++◌, ℕ, ◌+◌, ◌*◌, ◌≤◌, ◌<◌, ltb, get_or}
use Rattle.std.proofs.Common.{sym, ap, ap₂, ◌∙◌, arith, ltb-true, le-ltb, ne_eqb, length-append}
use Rattle.std.proofs.Math.ListN.{length}
use Rattle.std.proofs.Math.Pow.{are_bytes}
use Rattle.meaning.specs.Numbers.{finer, bad_number, bad_end, too_long}
use Rattle.meaning.specs.Model.{Model, Sizes, Rule, Chunk, Fact}
use Rattle.meaning.specs.Read.{read_refused, read_got, Reader, and_then, give, must, field, times}
use Rattle.meaning.specs.Image.{between, anything, Header, header, slot_counts, chunk, fact, has_queries, rule, ending, Beginning, beginning, model, decode_by, decode}
use Rattle.laws.specs.BaseLaws.{and_left}
use Rattle.laws.specs.ReadLaws.{field-got, no-got, split, times-all}
use Rattle.laws.specs.BitsLaws.{packed}
use Rattle.laws.specs.FieldLaws.{all_fields, model-fields, times-each, fact-each, counts_each, chunk-each}
use Rattle.laws.specs.PlaceLaws.{ends_well, ended_by}
use Rattle.promises.specs.Before.{version_of, rule01, SecondVersion}
use Rattle.promises.proofs.Proofs.VersionsRead.{rule-before, beginning-version, version-first}
use Rattle.promises.proofs.Proofs.VersionsBits.{stands-first, stands-second, pack, pack-long, pack-bytes, pack-stands, pack-ends}
use Rattle.promises.proofs.Proofs.VersionsCodes.{Code, given-code, recount, then-code, field-code, same_code, times-code, Written, WrittenFor, all-written, rule-code}

-- ---- the beginning, with another version

-- what is given, given altered
altered : {A : Type 0} (f : A → A) {x y : A} {n next : ℕ} → read_got x n ≡ read_got y next → read_got (f x) n ≡ read_got (f y) next
altered f {x} {y} {n} {next} e =
    let same : x ≡ y = cc in
    let there : n ≡ next = cc in
    ap₂ read_got (ap f same) there

abbrev second : Header → Header
second h = record { version = 2; buffers = h.buffers; declared = h.declared; rules = h.rules; facts = h.facts; failure = h.failure }

-- 2, in 8 bits
abbrev two : List Bool
two = false ∷ false ∷ false ∷ false ∷ false ∷ false ∷ true ∷ false ∷ []

header-code : (image : List ℕ) (h : Header) (next : ℕ) → header finer image 0 ≡ read_got h next → Code Header (header finer) (second h) 0 next 0
unfolding header packed
header-code image h next e =
    split (field 8 (must bad_number (between 1 2)) image 0) _ e λ v n₁ e₁ k₁.
    split (field 4 (must bad_number (between 1 8)) image n₁) _ k₁ λ buffers n₂ e₂ k₂.
    split (field 6 (must bad_number (between 0 63)) image n₂) _ k₂ λ declared n₃ e₃ k₃.
    split (field 9 (must bad_number (between 0 256)) image n₃) _ k₃ λ rules n₄ e₄ k₄.
    split (field 10 (must bad_number (between 0 512)) image n₄) _ k₄ λ facts n₅ e₅ k₅.
    split (field 16 anything image n₅) _ k₅ λ failure n₆ e₆ k₆.
    let after : n₁ ≡ 0 + 8 = (field-got 8 (must bad_number (between 1 2)) image 0 v n₁ e₁).after in
    let version : Code ℕ (field 8 (must bad_number (between 1 2))) 2 0 n₁ 0 = recount (field-code two (must bad_number (between 1 2)) 0 refl) (omega arith) in
    then-code ℕ Header _ _ version
    (then-code ℕ Header _ _ (same_code 4 (must bad_number (between 1 8)) image n₁ buffers n₂ e₂)
    (then-code ℕ Header _ _ (same_code 6 (must bad_number (between 0 63)) image n₂ declared n₃ e₃)
    (then-code ℕ Header _ _ (same_code 9 (must bad_number (between 0 256)) image n₃ rules n₄ e₄)
    (then-code ℕ Header _ _ (same_code 10 (must bad_number (between 0 512)) image n₄ facts n₅ e₅)
    (then-code ℕ Header _ _ (same_code 16 anything image n₅ failure n₆ e₆) (given-code Header _ image n₆ (second h) next (altered second k₆)))))))

abbrev begun : Beginning → Beginning
begun b = record { head = second b.head; types = b.types; opening = b.opening }

beginning-code : (image : List ℕ) (b : Beginning) (next : ℕ) → beginning finer image 0 ≡ read_got b next → Code Beginning (beginning finer) (begun b) 0 next 0
unfolding beginning
beginning-code image b next e =
    split (header finer image 0) _ e λ h n₁ e₁ k₁.
    split (slot_counts finer h.declared image n₁) _ k₁ λ counts n₂ e₂ k₂.
    split (times h.buffers (chunk finer (0 ∷ counts) 0) image n₂) _ k₂ λ opening n₃ e₃ k₃.
    let all : Written (List Chunk) (times h.buffers (chunk finer (0 ∷ counts) 0)) =
    times-each finer finer WrittenFor all-written Chunk _ (chunk finer (0 ∷ counts) 0) (chunk-each finer finer WrittenFor all-written (0 ∷ counts) 0) h.buffers in
    then-code Header Beginning _ _ (header-code image h n₁ e₁)
    (then-code (List ℕ) Beginning _ _ ((counts_each finer finer WrittenFor all-written h.declared).code image n₁ counts n₂ e₂)
    (then-code (List Chunk) Beginning _ _ (all.code image n₂ opening n₃ e₃) (given-code Beginning _ image n₃ (begun b) next (altered begun k₃))))

-- ---- all fields

-- what is read after the beginning, as `all_fields` has it
abbrev afterwards : Beginning → Reader Model
afterwards b =
    and_then (times b.head.facts (fact finer b.types)) λ facts.
    and_then (times b.head.rules (rule finer b.head.version (record { buffers = b.head.buffers; types = b.types }))) λ rules.
    give (record { buffers = b.head.buffers; types = b.types; failure = b.head.failure; opening = b.opening; facts = facts; rules = rules })

-- bits of a model in version 2: those of its beginning, and those that follow it, four for each rule more than there were
record Second (m : Model) (at : ℕ) : Type 0 where
  start : Beginning
  is_two : start.head.version ≡ 2
  mid : ℕ
  first : Code Beginning (beginning finer) start 0 mid 0
  rest : Code Model (afterwards start) m mid at (4 * length m.rules)

fields-second : (image : List ℕ) → (version_of image ≡ 2 → ⊥) → (m : Model) (at : ℕ) → all_fields finer image 0 ≡ read_got m at → Second m at
unfolding all_fields
fields-second image other m at e =
    split (beginning finer image 0) _ e λ b n₁ e₁ k₁.
    split (times b.head.facts (fact finer b.types) image n₁) _ k₁ λ facts n₂ e₂ k₂.
    let z : Sizes = record { buffers = b.head.buffers; types = b.types } in
    let v : ℕ = b.head.version in
    let plain : has_queries v ≡ false = ne_eqb v 2 (λ is. other (sym (beginning-version finer image b n₁ e₁) ∙ is)) in
    split (times b.head.rules (rule finer v z) image n₂) _ k₂ λ rules n₃ e₃ k₃.
    let read : times b.head.rules (rule01 finer z) image n₂ ≡ read_got rules n₃ = rw (rule-before finer v plain z) at e₃ in
    let as_many : length m.rules ≡ b.head.rules =
    sym (rules-of k₃) ∙ (times-all (rule01 finer z) (λ r. true) (λ i a r n k. refl) b.head.rules image n₂ rules n₃ read).1 in
    let all : Written (List Fact) (times b.head.facts (fact finer b.types)) =
    times-each finer finer WrittenFor all-written Fact _ (fact finer b.types) (fact-each finer finer WrittenFor all-written b.types) b.head.facts in
    let after : Code Model (afterwards (begun b)) m n₁ at (0 + (4 * b.head.rules + 0)) =
    then-code (List Fact) Model _ _ (all.code image n₁ facts n₂ e₂)
    (then-code (List Rule) Model _ _ (times-code Rule (rule01 finer z) (rule finer 2 z) (rule-code z) b.head.rules image n₂ rules n₃ read) (given-code Model _ image n₃ m at k₃)) in
    record { start = begun b; is_two = refl; mid = n₁; first = beginning-code image b n₁ e₁; rest = recount after (omega arith) }
  where
    rules-of : {x : Model} {n : ℕ} → read_got x n ≡ read_got m at → length x.rules ≡ length m.rules
    rules-of {x} k = let same : x ≡ m = cc in ap (λ (y : Model). length y.rules) same

-- ---- an image that is read, taken apart

-- the end is where the last field ends
ending_there : (image : List ℕ) (at : ℕ) (u : Unit {0}) (there : ℕ) → ending image at ≡ read_got u there → at ≡ there
unfolding ending
ending_there image at u there e = by (ends_well image at) e
  where
    by : (t : Bool) → ended_by at t ≡ read_got u there → at ≡ there
    by true k = cc
    by false k = absurd (no-got bad_end 0 u there k)

pub fields_read : (image : List ℕ) (m : Model) (end : ℕ) → model finer image 0 ≡ read_got m end → all_fields finer image 0 ≡ read_got m end
fields_read image m end e =
    split (all_fields finer image 0) _ (sym (model-fields finer image 0) ∙ e) λ n at e₁ k₁.
    split (ending image at) _ k₁ λ u there e₂ k₂.
    e₁ ∙ ap (read_got n) (ending_there image at u there e₂) ∙ k₂

pub decoded-model : (image : List ℕ) (m : Model) (end : ℕ) → decode image ≡ read_got m end → model finer image 0 ≡ read_got m end
unfolding decode_by
decoded-model image m end e =
    (elim (ltb 65536 (length image)) as (λ t. (if t then read_refused too_long 0 else model finer image 0) ≡ read_got m end → model finer image 0 ≡ read_got m end) [
      | true ↦ λ k. absurd (no-got too_long 0 m end k)
      | false ↦ λ k. k
    ]) e

-- ---- the image that the bits make

module _ (m : Model) (at : ℕ) (s : Second m at) where
  -- the beginning's, the others, and all
  abbrev xs : List Bool
  xs = s.first.bits

  abbrev ys : List Bool
  ys = s.rest.bits

  abbrev made : List ℕ
  made = pack (xs ++ ys)

  bits-long : length (xs ++ ys) ≡ at + 4 * length m.rules
  bits-long = omega (arith, length-append xs ys, s.first.long, s.rest.long)

  begins : beginning finer made 0 ≡ read_got s.start (0 + length xs)
  begins = s.first.reads made 0 (stands-first made 0 xs ys (pack-stands (xs ++ ys)))

  goes_on : afterwards s.start made (0 + length xs) ≡ read_got m (length (xs ++ ys))
  goes_on = s.rest.reads made (0 + length xs) (stands-second made 0 xs ys (pack-stands (xs ++ ys))) ∙ ap (read_got m) (omega (arith, length-append xs ys))

  fields_made : all_fields finer made 0 ≡ read_got m (length (xs ++ ys))
  unfolding all_fields
  fields_made = rw begins goes_on

  made-decodes : at + 4 * length m.rules ≤ 524288 → decode made ≡ read_got m (at + 4 * length m.rules)
  unfolding decode_by
  made-decodes room =
      let short : length made ≤ 65536 = omega (arith, bits-long, pack-long (xs ++ ys)) in
      rw (le-ltb 65536 (length made) short, model-fields finer made 0, fields_made, pack-ends (xs ++ ys)) (ap (read_got m) bits-long)

  made-two : version_of made ≡ 2
  made-two = sym (beginning-version finer made s.start (0 + length xs) begins) ∙ s.is_two

pub byte-lt : (bytes : List ℕ) → are_bytes bytes ≡ true → get_or bytes 0 0 < 256
byte-lt [] e = omega arith
byte-lt (b ∷ bs) e = ltb-true b 256 (and_left (ltb b 256) (are_bytes bs) e)

pub second-version : (image : List ℕ) (m : Model) (end : ℕ) → (version_of image ≡ 2 → ⊥) → decode image ≡ read_got m end → end + 4 * length m.rules ≤ 524288
    → SecondVersion m (end + 4 * length m.rules)
second-version image m end other d room =
    let s : Second m end = fields-second image other m end (fields_read image m end (decoded-model image m end d)) in
    let bytes : are_bytes (made m end s) ≡ true = pack-bytes (xs m end s ++ ys m end s) in
    record {
      image = made m end s;
      bytes = bytes;
      first_two = sym (version-first (made m end s) (byte-lt (made m end s) bytes)) ∙ made-two m end s;
      decodes = made-decodes m end s room;
    }
