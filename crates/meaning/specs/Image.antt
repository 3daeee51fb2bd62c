-- "The image, field by field", in reading order.
use Rattle.std.specs.Prelude.{if◌then◌else◌, Bool, true, false, ◌&&◌, ◌||◌, not, List, [], ◌∷◌, ◌++◌, ℕ, zero, suc, ◌+◌, ◌-◌, ◌*◌, ◌%◌, ◌^◌, ltb, leb, eqb, length, replicate, ℤ, pos}
use Rattle.std.proofs.Math.IntN.{sub_ℕ}
use Rattle.meaning.specs.Base.{every, any_of, keep, up_from, bit}
use Rattle.meaning.specs.Numbers.{RuleNumbers, finer, too_long, bad_end}
use Rattle.meaning.specs.Model.{Model, Sizes, Rule, Action, Deed, deed_modify, deed_request, deed_clear, Query, Ask, busy, free, error, Test, Named, Term, symbol, variable, Chunk, Fact}
use Rattle.meaning.specs.State.{slot_count}
use Rattle.meaning.specs.Bits.{field_at}
use Rattle.meaning.specs.Read.{Read, read_refused, read_got, Reader, and_then as ◌>>=◌, next as ◌>>◌, give, Judgement, must, ◌also◌, field, require, times, rising}

-- Each reader is handed the numbers that its rules go by (`by`): 01's and those of request 2026-03 are two uses of one definition.

-- ---- the rules of single fields, as conditions on the value

-- "1 to 8 buffers", "T from 0 to 63" and the like
abbrev pub between : ℕ → ℕ → ℕ → Bool
between low high n = leb low n && leb n high

-- "type .. (0 to T)" with least 0, "type .. (1 to T)" with least 1
abbrev pub a_type : List ℕ → ℕ → ℕ → Bool
a_type types least k = leb least k && ltb k (length types)

-- "Each buffer is below the buffer count; buffers rise strictly": `least` is the lowest that may stand here
abbrev pub a_buffer : ℕ → ℕ → ℕ → Bool
a_buffer buffers least b = leb least b && ltb b buffers

-- "In every mask, bits past the type's slots are 0": the last 8 - slots bits
abbrev pub a_mask : ℕ → ℕ → Bool
a_mask slots mask = eqb (mask % 2 ^ (8 - slots)) 0

-- "kind 0 a symbol, kind 1 a variable number below the rule's count"
abbrev pub a_term : ℕ → ℕ → Bool
a_term variables t = ltb t (4096 + variables)

-- every value will do
abbrev pub anything : Judgement
anything value = 0

-- ---- 1. "Version, 8 bits, 1. Buffers, 4. T, 6. Rules, 9. Facts, 10. Failure latency in ms, 16."; since request 2026-06 the version is 1 or 2

pub record Header : Type 0 where
  pub version : ℕ
  pub buffers : ℕ
  pub declared : ℕ
  pub rules : ℕ
  pub facts : ℕ
  pub failure : ℕ

unfoldable pub header : RuleNumbers → Reader Header
header by = do
  version ← field 8 (must by.number (between 1 2))
  buffers ← field 4 (must by.number (between 1 8))
  declared ← field 6 (must by.number (between 0 63))
  rules ← field 9 (must by.number (between 0 256))
  facts ← field 10 (must by.number (between 0 512))
  failure ← field 16 anything
  give (record { version = version; buffers = buffers; declared = declared; rules = rules; facts = facts; failure = failure })

-- ---- 2. "For each declared type: slot count, 4 bits."

abbrev pub slot_counts : RuleNumbers → ℕ → Reader (List ℕ)
slot_counts by declared = times declared (field 4 (must by.number (between 0 8)))

-- ---- 3. "its opening chunk: type, 6 bits (0 to T), then 12 bits for each slot of that type"

-- eight slot values, 0 past those that are given
abbrev pub eight : List ℕ → List ℕ
eight values = values ++ replicate (8 - length values) 0

unfoldable pub chunk : RuleNumbers → List ℕ → ℕ → Reader Chunk
chunk by types least = do
  k ← field 6 (must by.number (a_type types least))
  values ← times (slot_count types k) (field 12 anything)
  give (record { isa = k; slots = eight values })

-- ---- 4. "For each fact: type, 6 bits (1 to T), 12 bits per slot, activation 16 bits unsigned, latency in ms 16 bits."

unfoldable pub fact : RuleNumbers → List ℕ → Reader Fact
fact by types = do
  c ← chunk by types 1
  activation ← field 16 anything
  latency ← field 16 anything
  give (record { chunk = c; activation = activation; latency = latency })

-- ---- 5. "For each rule: utility, 16 bits, in thousandths ..; tests, 4 bits (1 to the buffer count); actions, 4 bits (0 to the buffer count); variables, 4 bits (0 to 8)."

-- the four fields as they are read: how many tests, actions and variables follow
pub record Head : Type 0 where
  pub utility : ℕ
  pub tests : ℕ
  pub actions : ℕ
  pub variables : ℕ

-- whether an image of that version has queries: "A rule of a version 2 image has .. queries"; "Version 1 images open as before, with no queries."
abbrev pub has_queries : ℕ → Bool
has_queries version = eqb version 2

-- "tests, 4 bits (1 to the buffer count)"; in version 2 "A rule may have no test if it has a query"
abbrev pub least_tests : ℕ → ℕ
least_tests version = if has_queries version then 0 else 1

unfoldable pub head : RuleNumbers → ℕ → ℕ → Reader Head
head by version buffers = do
  utility ← field 16 anything
  tests ← field 4 (must by.number (between (least_tests version) buffers))
  actions ← field 4 (must by.number (between 0 buffers))
  variables ← field 4 (must by.number (between 0 8))
  give (record { utility = utility; tests = tests; actions = actions; variables = variables })

-- "where a field with its top bit set stands for its value less 65,536"
abbrev pub utility_of : ℕ → ℤ
utility_of u = if ltb u 32768 then pos u else sub_ℕ u 65536

-- "slot mask 8 bits, first mask bit for slot 0"
abbrev pub names : ℕ → ℕ → Bool
names mask slot = bit mask (7 - slot)

unfoldable pub slots_in : ℕ → List ℕ
slots_in mask = keep (names mask) (up_from 0 8)

-- "Term, one field of 13 bits: a kind bit, then 12 bits: kind 0 a symbol, kind 1 a variable number"
abbrev pub term_of : ℕ → Term
term_of t = if ltb t 4096 then symbol t else (variable (t - 4096))

-- "one term for each set bit"
unfoldable pub terms : RuleNumbers → ℕ → List ℕ → Reader (List Named)
terms by variables [] = give []
terms by variables (slot ∷ slots) = do
  t ← field 13 (must by.variable (a_term variables))
  rest ← terms by variables slots
  give (record { slot = slot; term = term_of t } ∷ rest)

-- a mask and its terms, of a type with so many slots
unfoldable pub masked : RuleNumbers → ℕ → ℕ → Reader (List Named)
masked by variables slots = do
  mask ← field 8 (must by.mask (a_mask slots))
  terms by variables (slots_in mask)

-- "Test: buffer 3 bits, type 6 bits (0 to T), slot mask 8 bits, .. then one term for each set bit."
unfoldable pub test : RuleNumbers → Sizes → ℕ → ℕ → Reader Test
test by z variables least = do
  b ← field 3 (must by.buffer (a_buffer z.buffers least))
  k ← field 6 (must by.number (a_type z.types 0))
  ns ← masked by variables (slot_count z.types k)
  give (record { buffer = b; isa = k; named = ns })

-- "buffers rise strictly among a rule's tests"
abbrev pub tests : RuleNumbers → Sizes → ℕ → ℕ → Reader (List Test)
tests by z variables n = rising (test by z variables) (λ t. t.buffer) n 0

-- a term is variable v
abbrev pub is_variable : ℕ → Term → Bool
is_variable v (symbol s) = false
is_variable v (variable w) = eqb v w

-- "every variable of the rule must have stood in one of them": variable v stands in one of the tests
abbrev pub stands_in : List Test → ℕ → Bool
stands_in ts v = any_of (λ t. any_of (λ n. is_variable v n.term) t.named) ts

-- "a kind, 2 bits: 0 busy .., 1 free .., 2 error"
abbrev pub ask_of : ℕ → Ask
ask_of zero = busy
ask_of (suc zero) = free
ask_of (suc (suc n)) = error

-- "for each a buffer, strictly rising, 3 bits, and a kind, 2 bits: .. 3 is refused as 3"
unfoldable pub query : RuleNumbers → ℕ → ℕ → Reader Query
query by buffers least = do
  b ← field 3 (must by.buffer (a_buffer buffers least))
  kind ← field 2 (must by.number (λ kind. leb kind 2))
  give (record { buffer = b; asks = ask_of kind })

-- "without tests a query count of 0 breaks its rule"
abbrev pub least_queries : ℕ → ℕ
least_queries tests = if eqb tests 0 then 1 else 0

-- "a 4-bit number of queries (0 to the buffer count), then for each .." of a rule with so many tests
unfoldable pub queried : RuleNumbers → ℕ → ℕ → Reader (List Query)
queried by buffers tests = do
  n ← field 4 (must by.number (between (least_queries tests) buffers))
  rising (query by buffers) (λ q. q.buffer) n 0

-- "Version 1 images open as before, with no queries."
abbrev pub queries : RuleNumbers → ℕ → ℕ → ℕ → Reader (List Query)
queries by version buffers tests = if has_queries version then queried by buffers tests else give []

-- a buffer is tested, and the type that its test names
abbrev pub is_tested : List Test → ℕ → Bool
is_tested ts b = any_of (λ t. eqb t.buffer b) ts

abbrev pub tested_type : List Test → ℕ → ℕ
tested_type [] b = 0
tested_type (t ∷ ts) b = if eqb t.buffer b then t.isa else tested_type ts b

-- "Kind 3 is not allowed." "on an untested buffer the kind field breaks its rule"
abbrev pub kind_rule : RuleNumbers → List Test → ℕ → Judgement
kind_rule by ts b = must by.number (λ kind. leb kind 2) also must by.buffer (λ kind. not (eqb kind 0) || is_tested ts b)

-- "Kind 0, modify: mask and terms for the tested type .. Kind 1, request: type 6 bits (1 to T), mask, terms. Kind 2, clear: nothing more."
unfoldable pub deed : RuleNumbers → Sizes → ℕ → List Test → ℕ → ℕ → Reader Deed
deed by z variables ts b zero = do
  ns ← masked by variables (slot_count z.types (tested_type ts b))
  give (deed_modify ns)
deed by z variables ts b (suc zero) = do
  k ← field 6 (must by.number (a_type z.types 1))
  ns ← masked by variables (slot_count z.types k)
  give (deed_request k ns)
deed by z variables ts b (suc (suc n)) = give deed_clear

-- "Action: buffer 3 bits, kind 2 bits."
unfoldable pub action : RuleNumbers → Sizes → ℕ → List Test → ℕ → Reader Action
action by z variables ts least = do
  b ← field 3 (must by.buffer (a_buffer z.buffers least))
  kind ← field 2 (kind_rule by ts b)
  d ← deed by z variables ts b kind
  give (record { buffer = b; deed = d })

-- "and among its actions"
abbrev pub actions : RuleNumbers → Sizes → ℕ → List Test → ℕ → Reader (List Action)
actions by z variables ts n = rising (action by z variables ts) (λ a. a.buffer) n 0

-- a rule from its head on: its tests, its queries, and its actions
-- "After its tests, every variable of the rule must have stood in one of them. This is checked before an action is read."
-- "The check on variables stands where the tests end, before the queries."
unfoldable pub body : RuleNumbers → ℕ → Sizes → Head → Reader Rule
body by version z h = do
  ts ← tests by z h.variables h.tests
  require by.variable (every (stands_in ts) (up_from 0 h.variables))
  qs ← queries by version z.buffers h.tests
  as' ← actions by z h.variables ts h.actions
  give (record { utility = utility_of h.utility; tests = ts; queries = qs; actions = as' })

-- "For each rule", in an image of that version
unfoldable pub rule : RuleNumbers → ℕ → Sizes → Reader Rule
rule by version z = do
  h ← head by version z.buffers
  body by version z h

-- ---- 6. "Zero bits up to the byte's end. No byte follows."

-- how many bits a byte has left at a position
abbrev pub padding : ℕ → ℕ
padding at = (8 - at % 8) % 8

-- no field is refused here, so there is no position: "else 0"
unfoldable pub ending : Reader (Unit {0})
ending image at =
    if eqb (field_at image at (padding at)) 0 && eqb (at + padding at) (8 * length image) then read_got tt at else read_refused bad_end 0

-- ---- the whole

-- 1 to 3: the header, the types and the opening chunks
pub record Beginning : Type 0 where
  pub head : Header
  pub types : List ℕ
  pub opening : List Chunk

unfoldable pub beginning : RuleNumbers → Reader Beginning
beginning by = do
  h ← header by
  counts ← slot_counts by h.declared
  let types = 0 ∷ counts
  opening ← times h.buffers (chunk by types 0)
  give (record { head = h; types = types; opening = opening })

-- 4 to 6: so many facts, so many rules, and the end
pub record Contents : Type 0 where
  pub facts : List Fact
  pub rules : List Rule

unfoldable pub contents : RuleNumbers → ℕ → Sizes → ℕ → ℕ → Reader Contents
contents by version z n m = do
  facts ← times n (fact by z.types)
  rules ← times m (rule by version z)
  ending
  give (record { facts = facts; rules = rules })

unfoldable pub model : RuleNumbers → Reader Model
model by = do
  b ← beginning by
  c ← contents by b.head.version (record { buffers = b.head.buffers; types = b.types }) b.head.facts b.head.rules
  give (record { buffers = b.head.buffers; types = b.types; failure = b.head.failure; opening = b.opening; facts = c.facts; rules = c.rules })

-- "image over 65,536 bytes" comes first
unfoldable pub decode_by : RuleNumbers → List ℕ → Read Model
decode_by by image = if ltb 65536 (length image) then read_refused too_long 0 else model by image 0

-- by the numbers that the calls answer
abbrev pub decode : List ℕ → Read Model
decode image = decode_by finer image
