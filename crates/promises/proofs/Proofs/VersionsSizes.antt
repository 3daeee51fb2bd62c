-- How many bits an image of a model has: each version has its own number of them, whatever the image. So an image of version 2 has four more for each rule than one of version 1.
use Rattle.std.specs.Prelude.{if◌then◌else◌, ◌≡◌, refl, Bool, true, false, List, [], ◌∷◌, ltb, leb, length}
use Rattle.std.proofs.Common.{sym, ap, ◌∙◌, mul-zero, mul-suc, add_comm, ltb-false}
use mathlib.Core.List.Memᴰ
use Prim.Native.Nat.{ℕ, zero, suc, ◌+◌, ◌-◌, ◌*◌, ◌≤◌}
use native.Mathlib.Omega.{arith}
use Rattle.meaning.specs.Base.{every, up_from}
use Rattle.meaning.specs.Numbers.{finer, bad_number, bad_mask, bad_variable, bad_buffer, too_long}
use Rattle.meaning.specs.Model.{Model, Sizes, Rule, Action, Deed, deed_modify, deed_request, deed_clear, Query, Test, Named, Chunk, Fact}
use Rattle.meaning.specs.State.{slot_count}
use Rattle.meaning.specs.Read.{read_refused, read_got, Reader, give, Judgement, must, field, require, times, rising}
use Rattle.meaning.specs.Image.{between, a_type, a_buffer, a_mask, a_term, anything, Header, header, slot_counts, eight, chunk, fact, utility_of, Head, least_tests, has_queries, head}
use Rattle.meaning.specs.Image.{terms, slots_in, masked, test, tests, stands_in, query, least_queries, queried, queries, tested_type, kind_rule, deed, action, actions, body, rule}
use Rattle.meaning.specs.Image.{Beginning, beginning, model, decode_by, decode}
use Rattle.laws.specs.ReadLaws.{field-got, no-got, split, times-all}
use Rattle.laws.specs.FieldLaws.{all_fields}
use Rattle.promises.specs.Before.{version_of, NoQueries, SecondVersion}
use Rattle.promises.proofs.Proofs.Reading.{all-reads}
use Rattle.promises.proofs.Proofs.VersionsRead.{accepted-tested, beginning-version, version-first}
use Rattle.promises.proofs.Proofs.VersionsSecond.{fields_read, decoded-model, byte-lt}

-- ---- the bits of each thing that is read

abbrev sum_of : {A : Type 0} → (A → ℕ) → List A → ℕ
sum_of size [] = 0
sum_of size (x ∷ xs) = size x + sum_of size xs

abbrev names_size : List Named → ℕ
names_size ns = 8 + 13 * length ns

abbrev test_size : Test → ℕ
test_size t = 9 + names_size t.named

abbrev deed_size : Deed → ℕ
deed_size (deed_modify ns) = names_size ns
deed_size (deed_request isa ns) = 6 + names_size ns
deed_size deed_clear = 0

abbrev action_size : Action → ℕ
action_size a = 5 + deed_size a.deed

abbrev query_size : Query → ℕ
query_size q = 5

abbrev queries_size : ℕ → List Query → ℕ
queries_size version qs = if has_queries version then 4 + sum_of query_size qs else 0

abbrev rule_size : ℕ → Rule → ℕ
rule_size version r = 28 + sum_of test_size r.tests + queries_size version r.queries + sum_of action_size r.actions

abbrev chunk_size : List ℕ → Chunk → ℕ
chunk_size types c = 6 + 12 * slot_count types c.isa

abbrev fact_size : List ℕ → Fact → ℕ
fact_size types f = chunk_size types f.chunk + 32

-- all but the rules
abbrev beginning_size : List ℕ → List Chunk → ℕ
beginning_size types opening = 53 + 4 * (length types - 1) + sum_of (chunk_size types) opening

abbrev model_size : ℕ → Model → ℕ
model_size version m = beginning_size m.types m.opening + sum_of (fact_size m.types) m.facts + sum_of (rule_size version) m.rules

-- ---- a reader that reads so many

abbrev Sized : (A : Type 0) → Reader A → (A → ℕ) → Type 0
Sized A p size = (image : List ℕ) (at : ℕ) (a : A) (next : ℕ) → p image at ≡ read_got a next → next ≡ at + size a

field-size : (width : ℕ) (judge : Judgement) → Sized ℕ (field width judge) (λ v. width)
field-size width judge image at v next e = (field-got width judge image at v next e).after

times-size : {A : Type 0} (p : Reader A) (size : A → ℕ) → Sized A p size → (n : ℕ) → Sized (List A) (times n p) (sum_of size)
unfolding times
times-size p size each zero image at xs next e = let q : [] ≡ xs = cc in let there : at ≡ next = cc in rw (← q) (omega arith)
times-size p size each (suc n) image at xs next e =
    split (p image at) _ e λ x n₁ e₁ k₁.
    split (times n p image n₁) _ k₁ λ rest n₂ e₂ k₂.
    let q : x ∷ rest ≡ xs = cc in
    let there : n₂ ≡ next = cc in
    rw (← q) (omega (arith, each image at x n₁ e₁, times-size p size each n image n₁ rest n₂ e₂))

rising-size : {A : Type 0} (p : ℕ → Reader A) (buffer size : A → ℕ) → ((least : ℕ) → Sized A (p least) size) → (n least : ℕ) → Sized (List A) (rising p buffer n least) (sum_of size)
unfolding rising
rising-size p buffer size each zero least image at xs next e = let q : [] ≡ xs = cc in let there : at ≡ next = cc in rw (← q) (omega arith)
rising-size p buffer size each (suc n) least image at xs next e =
    split (p least image at) _ e λ x n₁ e₁ k₁.
    split (rising p buffer n (buffer x + 1) image n₁) _ k₁ λ rest n₂ e₂ k₂.
    let q : x ∷ rest ≡ xs = cc in
    let there : n₂ ≡ next = cc in
    rw (← q) (omega (arith, each least image at x n₁ e₁, rising-size p buffer size each n (buffer x + 1) image n₁ rest n₂ e₂))

-- ---- tests, queries and actions

terms-size : (variables : ℕ) (slots : List ℕ) → Sized (List Named) (terms finer variables slots) (λ ns. 13 * length ns)
unfolding terms
terms-size variables [] image at ns next e = let q : [] ≡ ns = cc in let there : at ≡ next = cc in rw (← q) (omega arith)
terms-size variables (x ∷ xs) image at ns next e =
    split (field 13 (must bad_variable (a_term variables)) image at) _ e λ t n₁ e₁ k₁.
    split (terms finer variables xs image n₁) _ k₁ λ rest n₂ e₂ k₂.
    let there : n₂ ≡ next = cc in
    let long : length ns ≡ suc (length rest) = ap length (got_same k₂) in
    omega (arith, field-size 13 (must bad_variable (a_term variables)) image at t n₁ e₁, terms-size variables xs image n₁ rest n₂ e₂)
  where
    got_same : {y : List Named} {n : ℕ} → read_got y n ≡ read_got ns next → ns ≡ y
    got_same k = cc

masked-size : (variables slots : ℕ) → Sized (List Named) (masked finer variables slots) names_size
unfolding masked
masked-size variables slots image at ns next e =
    split (field 8 (must bad_mask (a_mask slots)) image at) _ e λ mask n₁ e₁ k₁.
    omega (arith, field-size 8 (must bad_mask (a_mask slots)) image at mask n₁ e₁, terms-size variables (slots_in mask) image n₁ ns next k₁)

test-size : (z : Sizes) (variables least : ℕ) → Sized Test (test finer z variables least) test_size
unfolding test
test-size z variables least image at t next e =
    split (field 3 (must bad_buffer (a_buffer z.buffers least)) image at) _ e λ b n₁ e₁ k₁.
    split (field 6 (must bad_number (a_type z.types 0)) image n₁) _ k₁ λ k n₂ e₂ k₂.
    split (masked finer variables (slot_count z.types k) image n₂) _ k₂ λ ns n₃ e₃ k₃.
    let q : record { buffer = b; isa = k; named = ns } ≡ t = cc in
    let there : n₃ ≡ next = cc in
    rw (← q)
    (omega (
      arith,
      field-size 3 (must bad_buffer (a_buffer z.buffers least)) image at b n₁ e₁,
      field-size 6 (must bad_number (a_type z.types 0)) image n₁ k n₂ e₂,
      masked-size variables (slot_count z.types k) image n₂ ns n₃ e₃,
    ))

query-size : (buffers least : ℕ) → Sized Query (query finer buffers least) query_size
unfolding query
query-size buffers least image at q next e =
    split (field 3 (must bad_buffer (a_buffer buffers least)) image at) _ e λ b n₁ e₁ k₁.
    split (field 2 (must bad_number (λ kind. leb kind 2)) image n₁) _ k₁ λ kind n₂ e₂ k₂.
    let there : n₂ ≡ next = cc in
    omega (arith, field-size 3 (must bad_buffer (a_buffer buffers least)) image at b n₁ e₁, field-size 2 (must bad_number (λ kind. leb kind 2)) image n₁ kind n₂ e₂)

queries-size : (version buffers tests : ℕ) → Sized (List Query) (queries finer version buffers tests) (queries_size version)
unfolding queried
queries-size version buffers tests image at qs next = by (has_queries version)
  where
    by : (t : Bool) → (if t then queried finer buffers tests else give []) image at ≡ read_got qs next → next ≡ at + (if t then 4 + sum_of query_size qs else 0)
    by true e =
        split (field 4 (must bad_number (between (least_queries tests) buffers)) image at) _ e λ n n₁ e₁ k₁.
        omega (
          arith,
          field-size 4 (must bad_number (between (least_queries tests) buffers)) image at n n₁ e₁,
          rising-size (query finer buffers) (λ q. q.buffer) query_size (query-size buffers) n 0 image n₁ qs next k₁,
        )
    by false e = let there : at ≡ next = cc in omega arith

module _ (z : Sizes) (variables : ℕ) (ts : List Test) where
  deed-size : (b kind : ℕ) → Sized Deed (deed finer z variables ts b kind) deed_size
  unfolding deed
  deed-size b zero image at d next e =
      split (masked finer variables (slot_count z.types (tested_type ts b)) image at) _ e λ ns n₁ e₁ k₁.
      let q : deed_modify ns ≡ d = cc in
      let there : n₁ ≡ next = cc in
      rw (← q) (omega (arith, masked-size variables (slot_count z.types (tested_type ts b)) image at ns n₁ e₁))
  deed-size b (suc zero) image at d next e =
      split (field 6 (must bad_number (a_type z.types 1)) image at) _ e λ isa n₁ e₁ k₁.
      split (masked finer variables (slot_count z.types isa) image n₁) _ k₁ λ ns n₂ e₂ k₂.
      let q : deed_request isa ns ≡ d = cc in
      let there : n₂ ≡ next = cc in
      rw (← q) (omega (arith, field-size 6 (must bad_number (a_type z.types 1)) image at isa n₁ e₁, masked-size variables (slot_count z.types isa) image n₁ ns n₂ e₂))
  deed-size b (suc (suc n)) image at d next e = let q : deed_clear ≡ d = cc in let there : at ≡ next = cc in rw (← q) (omega arith)

  action-size : (least : ℕ) → Sized Action (action finer z variables ts least) action_size
  unfolding action
  action-size least image at a next e =
      split (field 3 (must bad_buffer (a_buffer z.buffers least)) image at) _ e λ b n₁ e₁ k₁.
      split (field 2 (kind_rule finer ts b) image n₁) _ k₁ λ kind n₂ e₂ k₂.
      split (deed finer z variables ts b kind image n₂) _ k₂ λ d n₃ e₃ k₃.
      let q : record { buffer = b; deed = d } ≡ a = cc in
      let there : n₃ ≡ next = cc in
      rw (← q)
      (omega (
        arith,
        field-size 3 (must bad_buffer (a_buffer z.buffers least)) image at b n₁ e₁,
        field-size 2 (kind_rule finer ts b) image n₁ kind n₂ e₂,
        deed-size b kind image n₂ d n₃ e₃,
      ))

-- ---- a rule

head-size : (version buffers : ℕ) → Sized Head (head finer version buffers) (λ h. 28)
unfolding head
head-size version buffers image at h next e =
    split (field 16 anything image at) _ e λ u n₁ e₁ k₁.
    split (field 4 (must bad_number (between (least_tests version) buffers)) image n₁) _ k₁ λ n n₂ e₂ k₂.
    split (field 4 (must bad_number (between 0 buffers)) image n₂) _ k₂ λ m n₃ e₃ k₃.
    split (field 4 (must bad_number (between 0 8)) image n₃) _ k₃ λ v n₄ e₄ k₄.
    let there : n₄ ≡ next = cc in
    omega (
      arith,
      field-size 16 anything image at u n₁ e₁,
      field-size 4 (must bad_number (between (least_tests version) buffers)) image n₁ n n₂ e₂,
      field-size 4 (must bad_number (between 0 buffers)) image n₂ m n₃ e₃,
      field-size 4 (must bad_number (between 0 8)) image n₃ v n₄ e₄,
    )

require-size : (number : ℕ) (holds : Bool) → Sized (Unit {0}) (require number holds) (λ u. 0)
require-size number true image at u next e = let there : at ≡ next = cc in omega arith
require-size number false image at u next e = absurd (no-got number at u next e)

rule-size : (version : ℕ) (z : Sizes) → Sized Rule (rule finer version z) (rule_size version)
unfolding rule body
rule-size version z image at r next e =
    split (head finer version z.buffers image at) _ e λ h n₁ e₁ k₁.
    split (tests finer z h.variables h.tests image n₁) _ k₁ λ ts n₂ e₂ k₂.
    split (require bad_variable (every (stands_in ts) (up_from 0 h.variables)) image n₂) _ k₂ λ u n₃ e₃ k₃.
    split (queries finer version z.buffers h.tests image n₃) _ k₃ λ qs n₄ e₄ k₄.
    split (actions finer z h.variables ts h.actions image n₄) _ k₄ λ as' n₅ e₅ k₅.
    let q : record { utility = utility_of h.utility; tests = ts; queries = qs; actions = as' } ≡ r = cc in
    let there : n₅ ≡ next = cc in
    let headed = head-size version z.buffers image at h n₁ e₁ in
    let tested = rising-size (test finer z h.variables) (λ t. t.buffer) test_size (test-size z h.variables) h.tests 0 image n₁ ts n₂ e₂ in
    let checked = require-size bad_variable (every (stands_in ts) (up_from 0 h.variables)) image n₂ u n₃ e₃ in
    let asked = queries-size version z.buffers h.tests image n₃ qs n₄ e₄ in
    let acted = rising-size (action finer z h.variables ts) (λ a. a.buffer) action_size (action-size z h.variables ts) h.actions 0 image n₄ as' n₅ e₅ in
    rw (← q) (omega arith)

-- ---- chunks, facts, the beginning

-- so many fields of one width
sum-wide : (width : ℕ) (vs : List ℕ) → sum_of (λ v. width) vs ≡ width * length vs
sum-wide width [] = sym (mul-zero width)
sum-wide width (v ∷ vs) = ap (λ (x : ℕ). width + x) (sum-wide width vs) ∙ add_comm width (width * length vs) ∙ sym (mul-suc width (length vs))

fields-size : (width : ℕ) (judge : Judgement) (n : ℕ) → Sized (List ℕ) (times n (field width judge)) (λ vs. width * n)
fields-size width judge n image at vs next e =
    let many : length vs ≡ n = (times-all (field width judge) (λ v. true) (λ i a v x k. refl) n image at vs next e).1 in
    times-size (field width judge) (λ v. width) (field-size width judge) n image at vs next e ∙ ap (λ (x : ℕ). at + x) (sum-wide width vs ∙ ap (λ (x : ℕ). width * x) many)

chunk-size : (types : List ℕ) (least : ℕ) → Sized Chunk (chunk finer types least) (chunk_size types)
unfolding chunk
chunk-size types least image at c next e =
    split (field 6 (must bad_number (a_type types least)) image at) _ e λ k n₁ e₁ k₁.
    split (times (slot_count types k) (field 12 anything) image n₁) _ k₁ λ vs n₂ e₂ k₂.
    let q : record { isa = k; slots = eight vs } ≡ c = cc in
    let there : n₂ ≡ next = cc in
    rw (← q) (omega (arith, field-size 6 (must bad_number (a_type types least)) image at k n₁ e₁, fields-size 12 anything (slot_count types k) image n₁ vs n₂ e₂))

fact-size : (types : List ℕ) → Sized Fact (fact finer types) (fact_size types)
unfolding fact
fact-size types image at f next e =
    split (chunk finer types 1 image at) _ e λ c n₁ e₁ k₁.
    split (field 16 anything image n₁) _ k₁ λ activation n₂ e₂ k₂.
    split (field 16 anything image n₂) _ k₂ λ latency n₃ e₃ k₃.
    let q : record { chunk = c; activation = activation; latency = latency } ≡ f = cc in
    let there : n₃ ≡ next = cc in
    rw (← q)
    (omega (arith, chunk-size types 1 image at c n₁ e₁, field-size 16 anything image n₁ activation n₂ e₂, field-size 16 anything image n₂ latency n₃ e₃))

header-size : Sized Header (header finer) (λ h. 53)
unfolding header
header-size image at h next e =
    split (field 8 (must bad_number (between 1 2)) image at) _ e λ v n₁ e₁ k₁.
    split (field 4 (must bad_number (between 1 8)) image n₁) _ k₁ λ buffers n₂ e₂ k₂.
    split (field 6 (must bad_number (between 0 63)) image n₂) _ k₂ λ declared n₃ e₃ k₃.
    split (field 9 (must bad_number (between 0 256)) image n₃) _ k₃ λ rules n₄ e₄ k₄.
    split (field 10 (must bad_number (between 0 512)) image n₄) _ k₄ λ facts n₅ e₅ k₅.
    split (field 16 anything image n₅) _ k₅ λ failure n₆ e₆ k₆.
    let there : n₆ ≡ next = cc in
    omega (
      arith,
      field-size 8 (must bad_number (between 1 2)) image at v n₁ e₁,
      field-size 4 (must bad_number (between 1 8)) image n₁ buffers n₂ e₂,
      field-size 6 (must bad_number (between 0 63)) image n₂ declared n₃ e₃,
      field-size 9 (must bad_number (between 0 256)) image n₃ rules n₄ e₄,
      field-size 10 (must bad_number (between 0 512)) image n₄ facts n₅ e₅,
      field-size 16 anything image n₅ failure n₆ e₆,
    )

beginning-size : Sized Beginning (beginning finer) (λ b. beginning_size b.types b.opening)
unfolding beginning
beginning-size image at b next e =
    split (header finer image at) _ e λ h n₁ e₁ k₁.
    split (slot_counts finer h.declared image n₁) _ k₁ λ counts n₂ e₂ k₂.
    split (times h.buffers (chunk finer (0 ∷ counts) 0) image n₂) _ k₂ λ opening n₃ e₃ k₃.
    let q : record { head = h; types = 0 ∷ counts; opening = opening } ≡ b = cc in
    let there : n₃ ≡ next = cc in
    let many : length counts ≡ h.declared = (times-all (field 4 (must bad_number (between 0 8))) (λ v. true) (λ i a v x k. refl) h.declared image n₁ counts n₂ e₂).1 in
    let headed = header-size image at h n₁ e₁ in
    let typed = fields-size 4 (must bad_number (between 0 8)) h.declared image n₁ counts n₂ e₂ in
    let opened = times-size (chunk finer (0 ∷ counts) 0) (chunk_size (0 ∷ counts)) (chunk-size (0 ∷ counts) 0) h.buffers image n₂ opening n₃ e₃ in
    rw (← q) (omega arith)

-- ---- an image

image-size : (image : List ℕ) (m : Model) (end : ℕ) → decode image ≡ read_got m end → end ≡ model_size (version_of image) m
unfolding all_fields
image-size image m end d =
    split (beginning finer image 0) _ (fields_read image m end (decoded-model image m end d)) λ b n₁ e₁ k₁.
    let v : ℕ = b.head.version in
    let z : Sizes = record { buffers = b.head.buffers; types = b.types } in
    split (times b.head.facts (fact finer b.types) image n₁) _ k₁ λ facts n₂ e₂ k₂.
    split (times b.head.rules (rule finer v z) image n₂) _ k₂ λ rules n₃ e₃ k₃.
    let q : record { buffers = b.head.buffers; types = b.types; failure = b.head.failure; opening = b.opening; facts = facts; rules = rules } ≡ m = cc in
    let there : n₃ ≡ end = cc in
    let begun = beginning-size image 0 b n₁ e₁ in
    let facted = times-size (fact finer b.types) (fact_size b.types) (fact-size b.types) b.head.facts image n₁ facts n₂ e₂ in
    let ruled = times-size (rule finer v z) (rule_size v) (rule-size v z) b.head.rules image n₂ rules n₃ e₃ in
    rw (← q, ← beginning-version finer image b n₁ e₁) (omega arith)

-- "Image: at most 65,536 bytes"
image-most : (image : List ℕ) (m : Model) (end : ℕ) → decode image ≡ read_got m end → end ≤ 524288
unfolding decode_by
image-most image m end d =
    let within : end ≤ 8 * length image = (all-reads.within.got image 0 m end (omega arith) (fields_read image m end (decoded-model image m end d))).1 in
    (elim (ltb 65536 (length image)) as (λ t. ltb 65536 (length image) ≡ t → (if t then read_refused too_long 0 else model finer image 0) ≡ read_got m end → end ≤ 524288) [
      | true ↦ λ t k. absurd (no-got too_long 0 m end k)
      | false ↦ λ t k. omega (arith, ltb-false 65536 (length image) t)
    ]) refl d

-- four bits more for each rule without queries
rules-longer : (rules : List Rule) → NoQueries rules → sum_of (rule_size 2) rules ≡ sum_of (rule_size 1) rules + 4 * length rules
rules-longer [] bare = refl
rules-longer (r ∷ rs) bare = rw (bare r (Memᴰ.head refl)) (omega (arith, rules-longer rs (λ q m. bare q (Memᴰ.tail m))))

-- so an image of version 2 of a model that has one of version 1 has room for them
pub second-longer : (image : List ℕ) (m : Model) (end end' : ℕ) → version_of image ≡ 1 → decode image ≡ read_got m end → SecondVersion m end'
    → (end' ≡ end + 4 * length m.rules) × (end' ≤ 524288)
second-longer image m end end' one d s =
    let bare : NoQueries m.rules = λ r member. (accepted-tested image m end d (λ other. omega (arith, one, other)) r member).0 in
    let two : version_of s.image ≡ 2 = version-first s.image (byte-lt s.image s.bytes) ∙ s.first_two in
    let first : end ≡ model_size 1 m = rw one at (image-size image m end d) in
    let second : end' ≡ model_size 2 m = rw two at (image-size s.image m end' s.decodes) in
    (omega (arith, rules-longer m.rules bare), image-most s.image m end' s.decodes)
