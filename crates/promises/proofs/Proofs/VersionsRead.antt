-- An image whose version is not 2 is read as document 01 read it before request 2026-06, and refused as it was; one whose version is 2 was refused.
use Rattle.std.specs.Prelude.{if◌then◌else◌, ◌≡◌, Bool, true, false, ◌&&◌, ℕ, zero, suc, ◌+◌, ◌-◌, ◌/◌, ◌%◌, ◌^◌, ◌≤◌, ◌<◌, ltb, leb, eqb, length, get_or}
use Rattle.std.proofs.Math.Path.{refl}
use Rattle.std.proofs.Common.{sym, ap, ◌∙◌, arith, ltb-false, le-ltb, leb-true, le-leb, eqb-true, ne_eqb, shr-shr}
use mathlib.Core.List.{List, [], ◌∷◌, Memᴰ}
use Rattle.std.proofs.lemmas.Bool.{lt-leb}
use Rattle.meaning.specs.Base.{every, up_from}
use Rattle.meaning.specs.Numbers.{RuleNumbers, finer, bad_number, bad_variable, too_long}
use Rattle.meaning.specs.Model.{Model, Sizes, Rule}
use Rattle.meaning.specs.Bits.{field_at}
use Rattle.meaning.specs.Read.{Read, read_refused, read_got, Reader, follow, must, field, require, times, rising}
use Rattle.meaning.specs.Image.{between, anything, Header, header, slot_counts, chunk, Head, utility_of, has_queries, head, test, tests, stands_in, actions, body, rule}
use Rattle.meaning.specs.Image.{Beginning, beginning, Contents, contents, model, decode_by, decode}
use Rattle.laws.specs.BaseLaws.{and_left, and_right, every-member}
use Rattle.laws.specs.ReadLaws.{field-broken, field-got, no-got, split, times-all}
use Rattle.laws.specs.ImageLaws.{between-got, Parts, parts}
use Rattle.promises.specs.Before.{version_of, header01, head01, body01, rule01, beginning01, contents01, model01, decode01_by, decode01}

-- ---- a rule, of a version without queries

-- what is made of the parts at the end
abbrev model_of : Beginning → Contents → ℕ → Read Model
model_of b c at = read_got (record { buffers = b.head.buffers; types = b.types; failure = b.head.failure; opening = b.opening; facts = c.facts; rules = c.rules }) at

module _ (by : RuleNumbers) (version : ℕ) (none : has_queries version ≡ false) where
  head-before : (buffers : ℕ) → head by version buffers ≡ head01 by buffers
  unfolding head head01
  head-before buffers = rw none refl

  body-before : (z : Sizes) (h : Head) → body by version z h ≡ body01 by z h
  unfolding body body01
  body-before z h = rw none refl

  pub rule-before : (z : Sizes) → rule by version z ≡ rule01 by z
  unfolding rule rule01
  rule-before z = simp (head-before, body-before)

  contents-before : (z : Sizes) (n m : ℕ) → contents by version z n m ≡ contents01 by z n m
  unfolding contents contents01
  contents-before z n m = rw (rule-before z) refl

-- ---- the header: the version is the first field, and only its rule has changed

version-judged : (v : ℕ) → (v ≡ 2 → ⊥) → between 1 2 v ≡ between 1 1 v
version-judged zero h = refl
version-judged (suc zero) h = refl
version-judged (suc (suc zero)) h = absurd (h refl)
version-judged (suc (suc (suc v))) h = rw (lt-leb (suc (suc (suc v))) 2 (omega arith), lt-leb (suc (suc (suc v))) 1 (omega arith)) refl

-- the version that is handed on is the one that stands there
pub header-version : (by : RuleNumbers) (image : List ℕ) (h : Header) (next : ℕ) → header by image 0 ≡ read_got h next → h.version ≡ version_of image
unfolding header
header-version by image h next e =
    split (field 8 (must by.number (between 1 2)) image 0) _ e λ v n₁ e₁ k₁.
    split (field 4 (must by.number (between 1 8)) image n₁) _ k₁ λ buffers n₂ e₂ k₂.
    split (field 6 (must by.number (between 0 63)) image n₂) _ k₂ λ declared n₃ e₃ k₃.
    split (field 9 (must by.number (between 0 256)) image n₃) _ k₃ λ rules n₄ e₄ k₄.
    split (field 10 (must by.number (between 0 512)) image n₄) _ k₄ λ facts n₅ e₅ k₅.
    split (field 16 anything image n₅) _ k₅ λ failure n₆ e₆ k₆.
    is k₆ ∙ (field-got 8 (must by.number (between 1 2)) image 0 v n₁ e₁).is
  where
    is : {x : Header} {n : ℕ} → read_got x n ≡ read_got h next → h.version ≡ x.version
    is {x} k = let q : h ≡ x = cc in ap (λ (y : Header). y.version) q

pub beginning-version : (by : RuleNumbers) (image : List ℕ) (b : Beginning) (next : ℕ) → beginning by image 0 ≡ read_got b next → b.head.version ≡ version_of image
unfolding beginning
beginning-version by image b next e =
    split (header by image 0) _ e λ h n₁ e₁ k₁.
    split (slot_counts by h.declared image n₁) _ k₁ λ counts n₂ e₂ k₂.
    split (times h.buffers (chunk by (0 ∷ counts) 0) image n₂) _ k₂ λ opening n₃ e₃ k₃.
    is k₃ ∙ header-version by image h n₁ e₁
  where
    is : {x : Beginning} {n : ℕ} → read_got x n ≡ read_got b next → b.head.version ≡ x.head.version
    is {x} k = let q : b ≡ x = cc in ap (λ (y : Beginning). y.head.version) q

module _ (by : RuleNumbers) (image : List ℕ) (other : version_of image ≡ 2 → ⊥) where
  version-before : field 8 (must by.number (between 1 2)) image 0 ≡ field 8 (must by.number (between 1 1)) image 0
  unfolding field
  version-before = rw (version-judged (version_of image) other) refl

  beginning-before : beginning by image 0 ≡ beginning01 by image 0
  unfolding beginning beginning01 header header01
  beginning-before = rw version-before refl

  model-before : model by image 0 ≡ model01 by image 0
  unfolding model model01
  model-before = rw (← beginning-before) (from (beginning by image 0) refl)
    where
      from : (r : Read Beginning) → beginning by image 0 ≡ r
          → follow r
          (λ b at. follow (contents by b.head.version (record { buffers = b.head.buffers; types = b.types }) b.head.facts b.head.rules image at) (model_of b))
          ≡ follow r (λ b at. follow (contents01 by (record { buffers = b.head.buffers; types = b.types }) b.head.facts b.head.rules image at) (model_of b))
      from (read_refused n at) e = refl
      from (read_got b at) e =
          rw (contents-before by b.head.version (ne_eqb b.head.version 2 (λ two. other (sym (beginning-version by image b at e) ∙ two)))) refl

  pub read-before : decode_by by image ≡ decode01_by by image
  unfolding decode_by decode01_by
  read-before = rw model-before refl

-- ---- version 2 was refused, at its first bit

some_byte : (image : List ℕ) → version_of image ≡ 2 → 1 ≤ length image
unfolding field_at
some_byte [] e = absurd (omega arith)
some_byte (b ∷ bs) e = omega arith

module _ (by : RuleNumbers) (n : ℕ) (is : by.number ≡ suc n) (image : List ℕ) (two : version_of image ≡ 2) where
  header_refused : header01 by image 0 ≡ read_refused (suc n) 0
  unfolding header01
  header_refused =
      rw (field-broken 8 (must by.number (between 1 1)) image 0 n (omega (arith, some_byte image two)) (ap (must by.number (between 1 1)) two ∙ is)) refl

  pub refused-before : length image ≤ 65536 → decode01_by by image ≡ read_refused (suc n) 0
  unfolding decode01_by model01 beginning01
  refused-before short = rw (le-ltb 65536 (length image) short, header_refused) refl

-- so what 01 opened had another version
opened-other : (image : List ℕ) (m : Model) (at : ℕ) → decode01 image ≡ read_got m at → version_of image ≡ 2 → ⊥
unfolding decode01_by
opened-other image m at e two =
    (elim (ltb 65536 (length image)) as (λ t. ltb 65536 (length image) ≡ t → (if t then read_refused too_long 0 else model01 finer image 0) ≡ read_got m at → ⊥) [
      | true ↦ λ t k. no-got too_long 0 m at k
      | false ↦ λ t k. no-got bad_number 0 m at (sym (refused-before finer 2 refl image two (ltb-false 65536 (length image) t)) ∙ e)
    ]) refl e

-- and is opened, as it was
pub opened-before : (image : List ℕ) (m : Model) (at : ℕ) → decode01 image ≡ read_got m at → decode image ≡ read_got m at
opened-before image m at e = read-before finer image (opened-other image m at e) ∙ e

-- ---- an accepted image without queries: each of its rules has a test, and asks nothing else

rising-long : {A : Type 0} (p : ℕ → Reader A) (buffer : A → ℕ) (n least : ℕ) (image : List ℕ) (at : ℕ) (xs : List A) (end : ℕ)
    → rising p buffer n least image at ≡ read_got xs end → length xs ≡ n
unfolding rising
rising-long p buffer zero least image at xs end e = let q : [] ≡ xs = cc in rw (← q) refl
rising-long p buffer (suc n) least image at xs end e =
    split (p least image at) _ e λ x n₁ e₁ k₁.
    split (rising p buffer n (buffer x + 1) image n₁) _ k₁ λ rest n₂ e₂ k₂.
    let q : x ∷ rest ≡ xs = cc in
    rw (← q) (ap suc (rising-long p buffer n (buffer x + 1) image n₁ rest n₂ e₂))

pub head-tests : (buffers : ℕ) (image : List ℕ) (at : ℕ) (h : Head) (next : ℕ) → head01 finer buffers image at ≡ read_got h next → 1 ≤ h.tests
unfolding head01
head-tests buffers image at h next e =
    split (field 16 anything image at) _ e λ u n₁ e₁ k₁.
    split (field 4 (must bad_number (between 1 buffers)) image n₁) _ k₁ λ n n₂ e₂ k₂.
    split (field 4 (must bad_number (between 0 buffers)) image n₂) _ k₂ λ m n₃ e₃ k₃.
    split (field 4 (must bad_number (between 0 8)) image n₃) _ k₃ λ v n₄ e₄ k₄.
    let q : record { utility = u; tests = n; actions = m; variables = v } ≡ h = cc in
    rw (← q) (between-got 4 1 buffers image n₁ n n₂ e₂).0

-- as a test, so that it holds of all rules once it holds of each
abbrev tested : Rule → Bool
tested r = eqb (length r.queries) 0 && leb 1 (length r.tests)

rule-tested : (z : Sizes) (image : List ℕ) (at : ℕ) (r : Rule) (next : ℕ) → rule01 finer z image at ≡ read_got r next → tested r ≡ true
unfolding rule01 body01
rule-tested z image at r next e =
    split (head01 finer z.buffers image at) _ e λ h n₁ e₁ k₁.
    split (tests finer z h.variables h.tests image n₁) _ k₁ λ ts n₂ e₂ k₂.
    split (require bad_variable (every (stands_in ts) (up_from 0 h.variables)) image n₂) _ k₂ λ u n₃ e₃ k₃.
    split (actions finer z h.variables ts h.actions image n₃) _ k₃ λ as' n₄ e₄ k₄.
    let q : record { utility = utility_of h.utility; tests = ts; queries = []; actions = as' } ≡ r = cc in
    let long : length ts ≡ h.tests = rising-long (test finer z h.variables) (λ t. t.buffer) h.tests 0 image n₁ ts n₂ e₂ in
    rw (← q) (le-leb 1 (length ts) (omega (arith, head-tests z.buffers image at h n₁ e₁)))

no-elements : {A : Type 0} (xs : List A) → eqb (length xs) 0 ≡ true → xs ≡ []
no-elements [] e = refl
no-elements (x ∷ xs) e = absurd (omega (arith, eqb-true (length (x ∷ xs)) 0 e))

pub accepted-tested : (image : List ℕ) (m : Model) (at : ℕ) → decode image ≡ read_got m at → (version_of image ≡ 2 → ⊥)
    → (r : Rule) → Memᴰ r m.rules → (r.queries ≡ []) × (1 ≤ length r.tests)
accepted-tested image m at e other r member =
    let p : Parts image m = parts image m at e in
    let z : Sizes = record { buffers = m.buffers; types = m.types } in
    let v : ℕ = p.head.version in
    let none : has_queries v ≡ false = ne_eqb v 2 (λ two. other (sym (header-version finer image p.head p.types_at p.head_read) ∙ two)) in
    let all : every tested m.rules ≡ true =
    (times-all (rule01 finer z) tested (rule-tested z) p.head.rules image p.rules_at m.rules p.end (rw (rule-before finer v none z) at p.rules_read)).0 in
    let one : tested r ≡ true = every-member tested m.rules all member in
    (no-elements r.queries (and_left _ _ one), leb-true 1 (length r.tests) (and_right (eqb (length r.queries) 0) _ one))

-- ---- "Version, 8 bits" is the first byte

first-bits : (image : List ℕ) → get_or image 0 0 < 256 → (w : ℕ) → w ≤ 8 → field_at image 0 w ≡ get_or image 0 0 / 2 ^ (8 - w)
unfolding field_at
first-bits image h zero l = omega arith
first-bits image h (suc w) l =
    let b : ℕ = get_or image 0 0 in
    let byte : (0 + w) / 8 ≡ 0 = omega arith in
    let place : 7 - (0 + w) % 8 ≡ 7 - w = omega arith in
    let less : 8 - suc w ≡ 7 - w = omega arith in
    let more : 8 - w ≡ (7 - w) + 1 = omega arith in
    let before : field_at image 0 w ≡ b / 2 ^ (7 - w) / 2 = first-bits image h w (omega arith) ∙ ap (λ (x : ℕ). b / 2 ^ x) more ∙ sym (shr-shr b (7 - w) 1) in
    rw (byte, place, less, before) (omega arith)

pub version-first : (image : List ℕ) → get_or image 0 0 < 256 → version_of image ≡ get_or image 0 0
version-first image h = first-bits image h 8 (omega arith) ∙ omega arith
