-- What holds of each field, and is kept by reading one thing after the other, holds of the reading of all fields: the walk over the readers of the
-- image, made once. It goes by two readings at a time, each with numbers of its own; where one reading is meant the two are the same.
use Rattle.std.specs.Prelude.{if◌then◌else◌, ◌≡◌, Bool, true, false, not, ◌||◌, eqb}
use mathlib.Core.List.{List, [], ◌∷◌}
use Prim.Native.Nat.{ℕ, zero, suc, ◌+◌, ◌≤◌, ◌<◌}
use Rattle.std.proofs.Common.{arith}
use Rattle.std.proofs.Math.Dec.{leb}
use Rattle.meaning.specs.Numbers.{RuleNumbers}
use Rattle.meaning.specs.Model.{Model, Sizes, Rule, Action, Deed, Query, Test, Named, Chunk, Fact}
use Rattle.meaning.specs.State.{slot_count}
use Rattle.meaning.specs.Read.{Read, read_got, Reader, follow, and_then, give, Judgement, must, ◌also◌, field, times, rising}
use Rattle.meaning.specs.Image.{between, a_type, a_buffer, a_mask, a_term, anything, Header, header, slot_counts, chunk, fact, slots_in, terms, masked}
use Rattle.meaning.specs.Image.{Head, has_queries, least_tests, head, test, tests, least_queries, query, queried, queries, is_tested, tested_type, deed, action, actions, body, rule}
use Rattle.meaning.specs.Image.{ending, Beginning, beginning, contents, model}
use Rattle.laws.specs.ReadLaws.{follow-follow}

-- ---- what the rule of a field is about

pub data FieldRule : Type 0 where
  -- nothing: any value will do
  free : FieldRule
  -- a version, count, type or action kind; a mask; a variable; a buffer: a condition on the value
  of_number : (ℕ → Bool) → FieldRule
  of_mask : (ℕ → Bool) → FieldRule
  of-variable : (ℕ → Bool) → FieldRule
  of-buffer : (ℕ → Bool) → FieldRule
  -- two rules of one field
  both : FieldRule → FieldRule → FieldRule

-- the rule, by some numbers
abbrev pub judgement : RuleNumbers → FieldRule → Judgement
judgement by free = anything
judgement by (of_number holds) = must by.number holds
judgement by (of_mask holds) = must by.mask holds
judgement by (of-variable holds) = must by.variable holds
judgement by (of-buffer holds) = must by.buffer holds
judgement by (both a b) = judgement by a also judgement by b

-- "Kind 3 is not allowed", and a modify only of a tested buffer
abbrev kinds : List Test → ℕ → FieldRule
kinds ts b = both (of_number (λ kind. leb kind 2)) (of-buffer (λ kind. not (eqb kind 0) || is_tested ts b))

-- ---- all fields of an image, without its end

unfoldable pub all_fields : RuleNumbers → Reader Model
all_fields by =
    and_then (beginning by) λ b.
    and_then (times b.head.facts (fact by b.types)) λ facts.
    and_then (times b.head.rules (rule by b.head.version (record { buffers = b.head.buffers; types = b.types }))) λ rules.
    give (record { buffers = b.head.buffers; types = b.types; failure = b.head.failure; opening = b.opening; facts = facts; rules = rules })

-- what is made of them at the end
abbrev pub at_end : List ℕ → Read Model → Read Model
at_end image r = follow r (λ m at. follow (ending image at) (λ u end. read_got m end))

-- an image is read by reading all its fields, and then looking at its end
pub model-fields : (by : RuleNumbers) (image : List ℕ) (at : ℕ) → model by image at ≡ at_end image (all_fields by image at)
unfolding model contents all_fields
model-fields by image at = simp follow-follow

-- ---- what has to be known

-- of what is read by the one numbering and by the other: R holds where nothing is read, of one thing after the other, of a field, and of a rule's tests, queries
-- and actions with the check on its variables after the tests
pub record EachField (by by' : RuleNumbers) (R : (A : Type 0) → Reader A → Reader A → Type 1) : Type 1 where
  pub gives : (A : Type 0) (a : A) → R A (give a) (give a)
  pub follows : (A B : Type 0) (p p' : Reader A) (k k' : A → Reader B) → R A p p' → ((a : A) → R B (k a) (k' a)) → R B (and_then p k) (and_then p' k')
  pub fields : (width : ℕ) → 0 < width → width ≤ 16 → (r : FieldRule) → R ℕ (field width (judgement by r)) (field width (judgement by' r))
  pub bodies : (version : ℕ) (z : Sizes) (h : Head) → R (List Test) (tests by z h.variables h.tests) (tests by' z h.variables h.tests)
      → R (List Query) (queries by version z.buffers h.tests) (queries by' version z.buffers h.tests)
      → ((ts : List Test) → R (List Action) (actions by z h.variables ts h.actions) (actions by' z h.variables ts h.actions))
      → R Rule (body by version z h) (body by' version z h)

-- ---- the walk

module _ (by by' : RuleNumbers) (R : (A : Type 0) → Reader A → Reader A → Type 1) (each : EachField by by' R) where
  -- a field, and what follows it
  reads : (B : Type 0) (width : ℕ) → 0 < width → width ≤ 16 → (r : FieldRule) (k k' : ℕ → Reader B) → ((v : ℕ) → R B (k v) (k' v))
      → R B (and_then (field width (judgement by r)) k) (and_then (field width (judgement by' r)) k')
  reads B width some narrow r k k' = each.follows ℕ B _ _ k k' (each.fields width some narrow r)

  pub times-each : (A : Type 0) (p p' : Reader A) → R A p p' → (n : ℕ) → R (List A) (times n p) (times n p')
  unfolding times
  times-each A p p' h zero = each.gives (List A) []
  times-each A p p' h (suc n) =
      each.follows A (List A) p p' _ _ h λ x. each.follows (List A) (List A) _ _ _ _ (times-each A p p' h n) λ xs. each.gives (List A) (x ∷ xs)

  pub rising-each : (A : Type 0) (p p' : ℕ → Reader A) (buffer : A → ℕ) → ((least : ℕ) → R A (p least) (p' least)) → (n least : ℕ)
      → R (List A) (rising p buffer n least) (rising p' buffer n least)
  unfolding rising
  rising-each A p p' buffer h zero least = each.gives (List A) []
  rising-each A p p' buffer h (suc n) least =
      each.follows A (List A) _ _ _ _ (h least) λ x.
      each.follows (List A) (List A) _ _ _ _ (rising-each A p p' buffer h n (buffer x + 1)) λ xs. each.gives (List A) (x ∷ xs)

  header-each : R Header (header by) (header by')
  unfolding header
  header-each =
      reads Header 8 (omega arith) (omega arith) (of_number (between 1 2)) _ _ λ version.
      reads Header 4 (omega arith) (omega arith) (of_number (between 1 8)) _ _ λ buffers.
      reads Header 6 (omega arith) (omega arith) (of_number (between 0 63)) _ _ λ declared.
      reads Header 9 (omega arith) (omega arith) (of_number (between 0 256)) _ _ λ rules.
      reads Header 10 (omega arith) (omega arith) (of_number (between 0 512)) _ _ λ facts.
      reads Header 16 (omega arith) (omega arith) free _ _ λ failure.
      each.gives Header _

  pub counts_each : (declared : ℕ) → R (List ℕ) (slot_counts by declared) (slot_counts by' declared)
  counts_each = times-each ℕ _ _ (each.fields 4 (omega arith) (omega arith) (of_number (between 0 8)))

  pub chunk-each : (types : List ℕ) (least : ℕ) → R Chunk (chunk by types least) (chunk by' types least)
  unfolding chunk
  chunk-each types least =
      reads Chunk 6 (omega arith) (omega arith) (of_number (a_type types least)) _ _ λ k.
      each.follows (List ℕ) Chunk _ _ _ _ (times-each ℕ _ _ (each.fields 12 (omega arith) (omega arith) free) (slot_count types k)) λ values.
      each.gives Chunk _

  pub fact-each : (types : List ℕ) → R Fact (fact by types) (fact by' types)
  unfolding fact
  fact-each types =
      each.follows Chunk Fact _ _ _ _ (chunk-each types 1) λ c.
      reads Fact 16 (omega arith) (omega arith) free _ _ λ activation.
      reads Fact 16 (omega arith) (omega arith) free _ _ λ latency.
      each.gives Fact _

  head-each : (version buffers : ℕ) → R Head (head by version buffers) (head by' version buffers)
  unfolding head
  head-each version buffers =
      reads Head 16 (omega arith) (omega arith) free _ _ λ utility.
      reads Head 4 (omega arith) (omega arith) (of_number (between (least_tests version) buffers)) _ _ λ n.
      reads Head 4 (omega arith) (omega arith) (of_number (between 0 buffers)) _ _ λ m.
      reads Head 4 (omega arith) (omega arith) (of_number (between 0 8)) _ _ λ variables.
      each.gives Head _

  terms-each : (variables : ℕ) (slots : List ℕ) → R (List Named) (terms by variables slots) (terms by' variables slots)
  unfolding terms
  terms-each variables [] = each.gives (List Named) []
  terms-each variables (slot ∷ slots) =
      reads (List Named) 13 (omega arith) (omega arith) (of-variable (a_term variables)) _ _ λ t.
      each.follows (List Named) (List Named) _ _ _ _ (terms-each variables slots) λ rest.
      each.gives (List Named) _

  masked-each : (variables slots : ℕ) → R (List Named) (masked by variables slots) (masked by' variables slots)
  unfolding masked
  masked-each variables slots = reads (List Named) 8 (omega arith) (omega arith) (of_mask (a_mask slots)) _ _ λ mask. terms-each variables (slots_in mask)

  pub test-each : (z : Sizes) (variables least : ℕ) → R Test (test by z variables least) (test by' z variables least)
  unfolding test
  test-each z variables least =
      reads Test 3 (omega arith) (omega arith) (of-buffer (a_buffer z.buffers least)) _ _ λ b.
      reads Test 6 (omega arith) (omega arith) (of_number (a_type z.types 0)) _ _ λ k.
      each.follows (List Named) Test _ _ _ _ (masked-each variables (slot_count z.types k)) λ ns.
      each.gives Test _

  query-each : (buffers least : ℕ) → R Query (query by buffers least) (query by' buffers least)
  unfolding query
  query-each buffers least =
      reads Query 3 (omega arith) (omega arith) (of-buffer (a_buffer buffers least)) _ _ λ b.
      reads Query 2 (omega arith) (omega arith) (of_number (λ kind. leb kind 2)) _ _ λ kind.
      each.gives Query _

  queried-each : (buffers tests : ℕ) → R (List Query) (queried by buffers tests) (queried by' buffers tests)
  unfolding queried
  queried-each buffers tests =
      reads (List Query) 4 (omega arith) (omega arith) (of_number (between (least_queries tests) buffers)) _ _ λ n.
      rising-each Query _ _ (λ q. q.buffer) (query-each buffers) n 0

  queries-each : (version buffers tests : ℕ) → R (List Query) (queries by version buffers tests) (queries by' version buffers tests)
  queries-each version buffers tests =
      elim (has_queries version) as (λ t. R (List Query) (if t then queried by buffers tests else give []) (if t then queried by' buffers tests else give [])) [
        | true ↦ queried-each buffers tests
        | false ↦ each.gives (List Query) []
      ]

  module _ (z : Sizes) (variables : ℕ) (ts : List Test) where
    deed-each : (b kind : ℕ) → R Deed (deed by z variables ts b kind) (deed by' z variables ts b kind)
    unfolding deed
    deed-each b zero = each.follows (List Named) Deed _ _ _ _ (masked-each variables (slot_count z.types (tested_type ts b))) λ ns. each.gives Deed _
    deed-each b (suc zero) =
        reads Deed 6 (omega arith) (omega arith) (of_number (a_type z.types 1)) _ _ λ k.
        each.follows (List Named) Deed _ _ _ _ (masked-each variables (slot_count z.types k)) λ ns.
        each.gives Deed _
    deed-each b (suc (suc n)) = each.gives Deed _

    pub action-each : (least : ℕ) → R Action (action by z variables ts least) (action by' z variables ts least)
    unfolding action
    action-each least =
        reads Action 3 (omega arith) (omega arith) (of-buffer (a_buffer z.buffers least)) _ _ λ b.
        reads Action 2 (omega arith) (omega arith) (kinds ts b) _ _ λ kind.
        each.follows Deed Action _ _ _ _ (deed-each b kind) λ d.
        each.gives Action _

  body-each : (version : ℕ) (z : Sizes) (h : Head) → R Rule (body by version z h) (body by' version z h)
  body-each version z h =
      each.bodies version z h (rising-each Test _ _ (λ t. t.buffer) (test-each z h.variables) h.tests 0) (queries-each version z.buffers h.tests)
      (λ ts. rising-each Action _ _ (λ a. a.buffer) (action-each z h.variables ts) h.actions 0)

  pub rule-each : (version : ℕ) (z : Sizes) → R Rule (rule by version z) (rule by' version z)
  unfolding rule
  rule-each version z = each.follows Head Rule _ _ _ _ (head-each version z.buffers) (body-each version z)

  pub beginning-each : R Beginning (beginning by) (beginning by')
  unfolding beginning
  beginning-each =
      each.follows Header Beginning _ _ _ _ header-each λ h.
      each.follows (List ℕ) Beginning _ _ _ _ (counts_each h.declared) λ counts.
      each.follows (List Chunk) Beginning _ _ _ _ (times-each Chunk _ _ (chunk-each (0 ∷ counts) 0) h.buffers) λ opening.
      each.gives Beginning _

  pub all-each : R Model (all_fields by) (all_fields by')
  unfolding all_fields
  all-each =
      each.follows Beginning Model _ _ _ _ beginning-each λ b.
      each.follows (List Fact) Model _ _ _ _ (times-each Fact _ _ (fact-each b.types) b.head.facts) λ facts.
      each.follows (List Rule) Model _ _ _ _ (times-each Rule _ _ (rule-each b.head.version (record { buffers = b.head.buffers; types = b.types })) b.head.rules) λ rules.
      each.gives Model _
