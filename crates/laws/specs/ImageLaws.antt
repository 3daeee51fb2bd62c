-- Laws of the image's parts: counts within their bounds, the terms of a mask, chunks, heads of rules, and a decoded image taken apart.
use Rattle.std.specs.Prelude.{if◌then◌else◌, ◌≡◌, refl, Bool, ◌&&◌, List, ◌∷◌, ℕ, zero, suc, ◌≤◌, ◌<◌, ◌-◌, ltb, leb, eqb, length, drop, replicate}
use Rattle.std.proofs.Common.{ap, arith, leb-true, eqb-true, le-leb, drop_at}
use Rattle.std.proofs.Math.Bool.{true, false}
use Rattle.std.specs.Int.Count.{ones}
use Rattle.meaning.specs.Numbers.{finer, bad_number, too_long}
use Rattle.meaning.specs.Base.{every, up_from}
use Rattle.meaning.specs.Read.{read_refused, read_got, must, field, times}
use Rattle.meaning.specs.Image.{between, slots_in, chunk, a_type, anything, eight, decode, decode_by, Header, header, fact, Head, least_tests, head, rule, ending, beginning, contents, model}
use Rattle.meaning.specs.Model.{Model, Chunk}
use Rattle.meaning.specs.State.{slot_count, well_buffer, opens}
use Rattle.laws.specs.BaseLaws.{and_left, and_right, every_append, every-up_from}
use Rattle.laws.specs.BitsLaws.{field_at-lt}
use Rattle.laws.specs.ReadLaws.{FieldRead, field-got, follow-follow, must-kept, no-got, split, times-all}

-- a count that was read lies between its bounds
pub between-got : (width low high : ℕ) (s : List ℕ) (at n next : ℕ) → field width (must bad_number (between low high)) s at ≡ read_got n next → (low ≤ n) × (n ≤ high)
between-got width low high s at n next e =
    let k = must-kept 2 (leb low n && leb n high) (field-got width (must bad_number (between low high)) s at n next e).kept in
    (leb-true low n (and_left (leb low n) (leb n high) k), leb-true n high (and_right (leb low n) (leb n high) k))

-- ---- "How many terms follow is the number of ones in the mask": one test that antt computes over all 256 masks

abbrev right : ℕ → Bool
right mask = eqb (length (slots_in mask)) (ones mask)

all_right : every right (up_from 0 256) ≡ true
unfolding ones slots_in
all_right = refl

pub slots-ones : (mask : ℕ) → mask < 256 → length (slots_in mask) ≡ ones mask
slots-ones mask h = eqb-true (length (slots_in mask)) (ones mask) (every-up_from right 0 256 all_right mask (omega arith) (omega arith))

-- ---- a chunk that was read is well formed

all-zeros : (n : ℕ) → every (λ v. eqb v 0) (replicate n 0) ≡ true
all-zeros zero = refl
all-zeros (suc n) = all-zeros n

all_small : (n : ℕ) → every (λ v. leb v 4095) (replicate n 0) ≡ true
all_small zero = refl
all_small (suc n) = all_small n

-- a symbol is at most 4,095
symbol : (image : List ℕ) (at a next : ℕ) → field 12 anything image at ≡ read_got a next → leb a 4095 ≡ true
symbol image at a next e =
    let f : FieldRead 12 anything image at a next = field-got 12 anything image at a next e in
    le-leb a 4095 (omega (arith, f.is, field_at-lt image at 12))

made-well : (types : List ℕ) (k : ℕ) (vs : List ℕ) → ltb k (length types) ≡ true → every (λ v. leb v 4095) vs ≡ true → length vs ≡ slot_count types k
    → well_buffer types (record { isa = k; slots = eight vs; delay = 0; error = false }) ≡ true
made-well types k vs h small l =
    let t : every (λ v. leb v 4095) (eight vs) ≡ true = every_append (λ v. leb v 4095) vs (replicate (8 - length vs) 0) small (all_small (8 - length vs)) in
    let z : drop (slot_count types k) (eight vs) ≡ replicate (8 - length vs) 0 = drop_at vs (replicate (8 - length vs) 0) (slot_count types k) l in
    rw (h, t, z, all-zeros (8 - length vs)) refl

-- a chunk of a decoded image makes a well-formed buffer
pub chunk-well : (types : List ℕ) (least : ℕ) (image : List ℕ) (at : ℕ) (c : Chunk) (end : ℕ) → chunk finer types least image at ≡ read_got c end → well_buffer types (opens c) ≡ true
unfolding chunk
chunk-well types least image at c end e =
    split (field 6 (must bad_number (a_type types least)) image at) _ e λ k n₁ e₁ k₁.
    split (times (slot_count types k) (field 12 anything) image n₁) _ k₁ λ vs n₂ e₂ k₂.
    let q : record { isa = k; slots = eight vs } ≡ c = cc in
    let r : must bad_number (a_type types least) k ≡ 0 = (field-got 6 (must bad_number (a_type types least)) image at k n₁ e₁).kept in
    let v : (every (λ v. leb v 4095) vs ≡ true) × (length vs ≡ slot_count types k) = times-all (field 12 anything) (λ v. leb v 4095) symbol (slot_count types k) image n₁ vs n₂ e₂ in
    rw (← q) (made-well types k vs (and_right (leb least k) (ltb k (length types)) (must-kept 2 _ r)) v.0 v.1)

-- ---- a decoded image, taken apart

-- the parts in reading order; `types_at`, `opening_at`, `facts_at`, `rules_at` and `end` are the bits where the next part starts
pub record Parts (image : List ℕ) (m : Model) : Type 0 where
  pub head : Header
  pub counts : List ℕ
  pub types_at : ℕ
  pub opening_at : ℕ
  pub facts_at : ℕ
  pub rules_at : ℕ
  pub end : ℕ
  pub buffers_are : m.buffers ≡ head.buffers
  pub types_are : m.types ≡ 0 ∷ counts
  pub head_read : header finer image 0 ≡ read_got head types_at
  pub opening_read : times m.buffers (chunk finer m.types 0) image opening_at ≡ read_got m.opening facts_at
  pub facts_read : times head.facts (fact finer m.types) image facts_at ≡ read_got m.facts rules_at
  pub rules_read : times head.rules (rule finer head.version (record { buffers = m.buffers; types = m.types })) image rules_at ≡ read_got m.rules end

module _ (image : List ℕ) (m : Model) (at : ℕ) where
  model-parts : model finer image 0 ≡ read_got m at → Parts image m
  unfolding model beginning contents
  model-parts e =
      split (header finer image 0) _ (simp follow-follow at e) λ h n₁ e₁ k₁.
      split (times h.declared (field 4 (must bad_number (between 0 8))) image n₁) _ k₁ λ counts n₂ e₂ k₂.
      split (times h.buffers (chunk finer (0 ∷ counts) 0) image n₂) _ k₂ λ opening n₃ e₃ k₃.
      split (times h.facts (fact finer (0 ∷ counts)) image n₃) _ k₃ λ facts n₄ e₄ k₄.
      split (times h.rules (rule finer h.version (record { buffers = h.buffers; types = 0 ∷ counts })) image n₄) _ k₄ λ rules n₅ e₅ k₅.
      split (ending image n₅) _ k₅ λ u n₆ e₆ k₆.
      let m-is : m ≡ record { buffers = h.buffers; types = 0 ∷ counts; failure = h.failure; opening = opening; facts = facts; rules = rules } = made k₆ in
      rw m-is
      (record {
        head = h;
        counts = counts;
        types_at = n₁;
        opening_at = n₂;
        facts_at = n₃;
        rules_at = n₄;
        end = n₅;
        buffers_are = refl;
        types_are = refl;
        head_read = e₁;
        opening_read = e₃;
        facts_read = e₄;
        rules_read = e₅;
      })
    where
      made : {x : Model} {n : ℕ} → read_got x n ≡ read_got m at → m ≡ x
      made e = cc

  pub parts : decode image ≡ read_got m at → Parts image m
  unfolding decode_by
  parts e =
      (elim (ltb 65536 (length image)) as (λ t. (if t then read_refused too_long 0 else model finer image 0) ≡ read_got m at → Parts image m) [
        | true ↦ λ h. absurd (no-got too_long 0 m at h)
        | false ↦ λ h. model-parts h
      ]) e

-- ---- the head of a rule

-- what holds of a head that was read
pub record HeadFits (h : Head) (buffers : ℕ) : Type 0 where
  pub tests_few : h.tests ≤ buffers
  pub actions_few : h.actions ≤ buffers
  pub variables_few : h.variables ≤ 8

pub head-fits : (version buffers : ℕ) (image : List ℕ) (at : ℕ) (h : Head) (end : ℕ) → head finer version buffers image at ≡ read_got h end → HeadFits h buffers
unfolding head
head-fits version buffers image at h end e =
    split (field 16 anything image at) _ e λ u n₁ e₁ k₁.
    split (field 4 (must bad_number (between (least_tests version) buffers)) image n₁) _ k₁ λ n n₂ e₂ k₂.
    split (field 4 (must bad_number (between 0 buffers)) image n₂) _ k₂ λ m n₃ e₃ k₃.
    split (field 4 (must bad_number (between 0 8)) image n₃) _ k₃ λ v n₄ e₄ k₄.
    let h-is : record { utility = u; tests = n; actions = m; variables = v } ≡ h = cc in
    rw (← h-is)
    (record {
      tests_few = (between-got 4 (least_tests version) buffers image n₁ n n₂ e₂).1;
      actions_few = (between-got 4 0 buffers image n₂ m n₃ e₃).1;
      variables_few = (between-got 4 0 8 image n₃ v n₄ e₄).1;
    })

-- ---- "0 to 256 rules"

header-rules : (image : List ℕ) (h : Header) (next : ℕ) → header finer image 0 ≡ read_got h next → h.rules ≤ 256
unfolding header
header-rules image h next e =
    split (field 8 (must bad_number (between 1 2)) image 0) _ e λ v n₁ e₁ k₁.
    split (field 4 (must bad_number (between 1 8)) image n₁) _ k₁ λ buffers n₂ e₂ k₂.
    split (field 6 (must bad_number (between 0 63)) image n₂) _ k₂ λ declared n₃ e₃ k₃.
    split (field 9 (must bad_number (between 0 256)) image n₃) _ k₃ λ rules n₄ e₄ k₄.
    split (field 10 (must bad_number (between 0 512)) image n₄) _ k₄ λ facts n₅ e₅ k₅.
    split (field 16 anything image n₅) _ k₅ λ failure n₆ e₆ k₆.
    let q : rules ≡ h.rules = is k₆ in
    omega (arith, (between-got 9 0 256 image n₃ rules n₄ e₄).1)
  where
    is : {x : Header} {n : ℕ} → read_got x n ≡ read_got h next → x.rules ≡ h.rules
    is {x} k = let q : x ≡ h = cc in ap (λ (y : Header). y.rules) q

pub few-rules : (image : List ℕ) (m : Model) (at : ℕ) → decode image ≡ read_got m at → length m.rules ≤ 256
few-rules image m at e =
    let p : Parts image m = parts image m at e in
    let l : length m.rules ≡ p.head.rules =
    (times-all (rule finer p.head.version (record { buffers = m.buffers; types = m.types })) (λ r. true) (λ image at a next e. refl)
    p.head.rules image p.rules_at m.rules p.end p.rules_read).1 in
    omega (arith, l, header-rules image p.head p.types_at p.head_read)
