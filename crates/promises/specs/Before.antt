-- Document 01 as it stood before request 2026-06: its reading of an image, its match, its states, its step and its runs, the one without a table (request 2026-02) too, both with
-- a store (2026-05). What the request leaves alone is cited. And the words in which Versions compares them with what is there now: a state without its error flags, and a run
-- but for flags.
use Rattle.std.specs.Prelude.{if◌then◌else◌, ◌≡◌, Bool, true, false, ◌&&◌, ℕ, zero, suc, ◌+◌, ◌-◌, ltb, leb, eqb, length, get_or, take, drop, replicate, ℤ, pos}
use mathlib.Core.List.{List, [], ◌∷◌, ◌++◌, map, Memᴰ}
use Rattle.std.proofs.Math.Option.{Option, none, some}
use Rattle.std.proofs.Math.Pow.{are_bytes}
use Rattle.meaning.specs.declared.Buffer.{Buffer}
use Rattle.meaning.specs.declared.State.{State}
use Rattle.meaning.specs.Base.{every, any_of, keep, up_from, same, bit}
use Rattle.meaning.specs.Highest.{highest}
use Rattle.meaning.specs.Numbers.{RuleNumbers, finer, all_done, too_long, not_fresh, halted}
use Rattle.meaning.specs.Model.{Model, Sizes, Rule, Deed, deed_modify, deed_request, deed_clear, Fact}
use Rattle.meaning.specs.State.{nil_after, slot_count, buffer_of}
use Rattle.meaning.specs.Bits.{field_at}
use Rattle.meaning.specs.Read.{Read, read_refused, read_got, Reader, and_then as ◌>>=◌, next as ◌>>◌, give, must, field, require, times}
use Rattle.meaning.specs.Image.{between, anything, Header, slot_counts, chunk, fact, Head, utility_of, tests, stands_in, actions, ending, Beginning, Contents, decode}
use Rattle.meaning.specs.Match.{places, value_in, agreed, shows}
use Rattle.meaning.specs.Choice.{Candidate, counts, lower, utilities, choose}
use Rattle.meaning.specs.Retrieval.{retrieve}
use Rattle.meaning.specs.Fire.{put, deed_on, change}
use Rattle.meaning.specs.Wait.{soonest}
use Rattle.meaning.specs.Mark.{mark_of}
use Rattle.meaning.specs.Step.{event_fired, event_waited, Step, step_stopped, step_made, unless_past}
use Rattle.meaning.specs.Learning.{knowing, store_after, if_room}
use Rattle.meaning.specs.Run.{Run, ends, before, Going, going}
use Rattle.meaning.specs.Calls.{needed_of, open_of, trace_lent, Ran, WithStore, run_lent, run_of, refresh_of}
use Rattle.meaning.specs.Fresh.{Move, stays, moves_to, Moving, moving, if_room_fresh, move_on, fresh_trace_lent, FreshRan, fresh_lent, fresh_of}
use Rattle.meaning.specs.Print.{printed}

-- ---- the reading of 01, for all its numbers; what it shares with the reading of now is cited

-- "Version, 8 bits", whatever it says
abbrev pub version_of : List ℕ → ℕ
version_of image = field_at image 0 8

-- "Version, 8 bits, 1. Buffers, 4. T, 6. Rules, 9. Facts, 10. Failure latency in ms, 16."
unfoldable pub header01 : RuleNumbers → Reader Header
header01 by = do
  version ← field 8 (must by.number (between 1 1))
  buffers ← field 4 (must by.number (between 1 8))
  declared ← field 6 (must by.number (between 0 63))
  rules ← field 9 (must by.number (between 0 256))
  facts ← field 10 (must by.number (between 0 512))
  failure ← field 16 anything
  give (record { version = version; buffers = buffers; declared = declared; rules = rules; facts = facts; failure = failure })

-- "utility, 16 bits, ..; tests, 4 bits (1 to the buffer count); actions, 4 bits (0 to the buffer count); variables, 4 bits (0 to 8)"
unfoldable pub head01 : RuleNumbers → ℕ → Reader Head
head01 by buffers = do
  utility ← field 16 anything
  tests ← field 4 (must by.number (between 1 buffers))
  actions ← field 4 (must by.number (between 0 buffers))
  variables ← field 4 (must by.number (between 0 8))
  give (record { utility = utility; tests = tests; actions = actions; variables = variables })

-- "After its tests, every variable of the rule must have stood in one of them. This is checked before an action is read."
unfoldable pub body01 : RuleNumbers → Sizes → Head → Reader Rule
body01 by z h = do
  ts ← tests by z h.variables h.tests
  require by.variable (every (stands_in ts) (up_from 0 h.variables))
  as' ← actions by z h.variables ts h.actions
  give (record { utility = utility_of h.utility; tests = ts; queries = []; actions = as' })

unfoldable pub rule01 : RuleNumbers → Sizes → Reader Rule
rule01 by z = do
  h ← head01 by z.buffers
  body01 by z h

-- 1 to 3
unfoldable pub beginning01 : RuleNumbers → Reader Beginning
beginning01 by = do
  h ← header01 by
  counts ← slot_counts by h.declared
  let types = 0 ∷ counts
  opening ← times h.buffers (chunk by types 0)
  give (record { head = h; types = types; opening = opening })

-- 4 to 6
unfoldable pub contents01 : RuleNumbers → Sizes → ℕ → ℕ → Reader Contents
contents01 by z n m = do
  facts ← times n (fact by z.types)
  rules ← times m (rule01 by z)
  ending
  give (record { facts = facts; rules = rules })

unfoldable pub model01 : RuleNumbers → Reader Model
model01 by = do
  b ← beginning01 by
  c ← contents01 by (record { buffers = b.head.buffers; types = b.types }) b.head.facts b.head.rules
  give (record { buffers = b.head.buffers; types = b.types; failure = b.head.failure; opening = b.opening; facts = c.facts; rules = c.rules })

-- "image over 65,536 bytes" comes first
unfoldable pub decode01_by : RuleNumbers → List ℕ → Read Model
decode01_by by image = if ltb 65536 (length image) then read_refused too_long 0 else model01 by image 0

abbrev pub decode01 : List ℕ → Read Model
decode01 image = decode01_by finer image

-- no rule asks anything of a buffer but by its tests
abbrev pub NoQueries : List Rule → Type 0
NoQueries rules = (r : Rule) → Memᴰ r rules → r.queries ≡ []

-- ---- the match and the marks of 01

-- "A rule matches when all its tests hold"
abbrev pub matches01 : Rule → State → Bool
matches01 r s = every (λ t. shows t (buffer_of s t.buffer)) r.tests && agreed (places r.tests s)

-- "An entry is 1 and then the values of variables 0 to 7 (0 where unused) if the rule matches, nine zeros if it does not."
unfoldable pub entry_of01 : Rule → State → List ℕ
entry_of01 r s = if matches01 r s then 1 ∷ map (value_in (places r.tests s)) (up_from 0 8) else replicate 9 0

-- "rules test a marked buffer"
abbrev pub tests_marked01 : ℕ → Rule → Bool
tests_marked01 mark r = any_of (λ t. bit mark t.buffer) r.tests

-- the table is "refreshed with that mark": their entries are made afresh, all others stay
unfoldable pub refresh01 : List Rule → State → ℕ → List ℕ → List ℕ
refresh01 [] s mark table = []
refresh01 (r ∷ rs) s mark table = (if tests_marked01 mark r then entry_of01 r s else take 9 table) ++ refresh01 rs s mark (drop 9 table)

-- ---- the states of 01

-- "each type is at most T, values are at most 4,095, slots past the type's count are 0"
abbrev pub well_buffer01 : List ℕ → Buffer → Bool
well_buffer01 types b =
    ltb b.isa (length types) && every (λ v. leb v 4095) b.slots && every (λ v. eqb v 0) (drop (slot_count types b.isa) b.slots)

-- "hold nil with delay 0"
abbrev pub is_unused01 : Buffer → Bool
is_unused01 b = eqb b.isa 0 && every (λ v. eqb v 0) b.slots && eqb b.delay 0

-- "A state is well formed when each type is at most T, values are at most 4,095, slots past the type's count are 0,
-- and buffers past the image's count hold nil with delay 0."
abbrev pub well_formed01 : Model → State → Bool
well_formed01 m s = every (well_buffer01 m.types) s.buffers && every is_unused01 (drop m.buffers s.buffers)

-- "each with a type, eight slot values and a delay": a buffer that has no error flag is written with a clear one
abbrev pub buffer01 : ℕ → List ℕ → ℕ → Buffer
buffer01 isa slots delay = record { isa = isa; slots = slots; delay = delay; error = false }

-- a buffer, and a state, with the error flag left out
abbrev pub unflag : Buffer → Buffer
unflag b = buffer01 b.isa b.slots b.delay

abbrev pub unflagged : State → State
unflagged s = record { buffers = map unflag s.buffers; clock = s.clock }

-- ---- a step of 01

-- "with the fact's latency as its delay. If no fact fits it gets nil with the failure latency."
abbrev pub retrieved01 : ℕ → Option Fact → Buffer
retrieved01 failure none = nil_after failure
retrieved01 failure (some f) = buffer01 f.chunk.isa f.chunk.slots f.latency

-- "A modified buffer keeps its type and unnamed slots, and gets delay 0." "A requested buffer gets a fact .." "A cleared buffer holds nil, delay 0."
unfoldable pub done01 : ℕ → List Fact → List ℕ → Buffer → Deed → Buffer
done01 failure memory entry b (deed_modify ns) = buffer01 b.isa (put ns entry b.slots) 0
done01 failure memory entry b (deed_request isa ns) = retrieved01 failure (retrieve memory isa ns entry)
done01 failure memory entry b deed_clear = nil_after 0

-- a buffer after some ms: its delay is lowered, "not below 0"
abbrev pub later01 : ℕ → Buffer → Buffer
later01 ms b = buffer01 b.isa b.slots (b.delay - ms)

-- "A buffer without an action loses 50 from its delay, not below 0."
abbrev pub after01 : ℕ → List Fact → List ℕ → Buffer → Option Deed → Buffer
after01 failure memory entry b none = later01 50 b
after01 failure memory entry b (some d) = done01 failure memory entry b d

-- "The clock rises by 50. All actions read the state before the step."
unfoldable pub fire01 : ℕ → List Fact → Rule → List ℕ → State → State
fire01 failure memory r entry s =
    record { buffers = change (λ i b. after01 failure memory entry b (deed_on r.actions i)) 0 s.buffers; clock = s.clock + 50 }

-- "is taken from every delay above 0 and added to the clock"
unfoldable pub wait01 : ℕ → State → State
wait01 ms s = record { buffers = change (λ i b. later01 ms b) 0 s.buffers; clock = s.clock + ms }

-- "The chosen entry must equal the fresh entry of that rule." "In a step 7 comes before 8."
unfoldable pub fire_step01 : ℕ → List Fact → State → Candidate → Step
fire_step01 failure memory s c =
    let s' : State = fire01 failure memory c.rule c.entry s in
    if same c.entry (entry_of01 c.rule s) then unless_past (event_fired c.number) s' (mark_of c.rule.actions s s') else step_stopped not_fresh

-- "No entry matches and nothing is pending. No step is made."; else "the smallest such delay"
abbrev pub wait_step01 : State → ℕ → Step
wait_step01 s zero = step_stopped halted
wait_step01 s (suc n) = unless_past (event_waited (suc n)) (wait01 (suc n) s) (mark_of [] s (wait01 (suc n) s))

-- "Fire.", with the chosen entry; "Wait. No entry matches and some delay is above 0"
abbrev pub step_by01 : ℕ → List Fact → State → Option Candidate → Step
step_by01 failure memory s none = wait_step01 s (soonest 0 s.buffers)
step_by01 failure memory s (some c) = fire_step01 failure memory s c

-- "Among those, the highest utility is chosen, then the lowest number."
unfoldable pub step01 : Model → State → List ℕ → Step
step01 m s table = step_by01 m.failure m.facts s (choose m.rules (utilities m.rules) table)

-- ---- a run of 01, with the store of request 2026-05

-- "After each step the table is refreshed with that mark." "Numbers 7, 8 and 9 return the state, table and count after the steps already made; the step in question changes
-- nothing."
abbrev pub go_on01 : Model → Going → (Going → Run Going) → Step → Run Going
go_on01 m g next (step_stopped n) = ends n g
go_on01 m g next (step_made e s' mark) =
    before (record { clock = s'.clock; event = e }) (next (going s' (refresh01 m.rules s' mark g.table) (store_after m g.state e g.store)))

-- so many steps at most, each of what the image and the store know, and with 14 "after 8"
unfoldable pub run_from01 : Model → ℕ → Going → Run Going
run_from01 m zero g = ends all_done g
run_from01 m (suc n) g = go_on01 m g (λ g'. run_from01 m n g') (if_room m g.store g.state (step01 (knowing m g.store) g.state g.table))

-- ---- the run without a table: it "matches every rule afresh at each step"

-- the rules from number k on, each with the next utility and its entry, worked out from the state
unfoldable pub matched01 : ℕ → List Rule → List ℤ → State → List Candidate
matched01 k [] us s = []
matched01 k (r ∷ rs) us s = record { number = k; rule = r; utility = get_or us 0 (pos 0); entry = entry_of01 r s } ∷ matched01 (k + 1) rs (drop 1 us) s

-- "the highest utility is chosen, then the lowest number"
abbrev pub choose_fresh01 : List Rule → State → Option Candidate
choose_fresh01 rules s = highest lower none (keep counts (matched01 0 rules (utilities rules) s))

-- "No entry matches and nothing is pending. No step is made."; else "the smallest such delay"
abbrev pub wait_fresh01 : State → ℕ → Move
wait_fresh01 s zero = stays halted
wait_fresh01 s (suc n) = moves_to (event_waited (suc n)) (wait01 (suc n) s)

-- "Fire.", with the values of the chosen entry; "Wait. No entry matches and some delay is above 0". 7 has "no meaning here"
abbrev pub move_by01 : ℕ → List Fact → State → Option Candidate → Move
move_by01 failure memory s none = wait_fresh01 s (soonest 0 s.buffers)
move_by01 failure memory s (some c) = moves_to (event_fired c.number) (fire01 failure memory c.rule c.entry s)

-- a step from the state alone
unfoldable pub move01 : Model → State → Move
move01 m s = move_by01 m.failure m.facts s (choose_fresh01 m.rules s)

-- so many steps at most, with 14 "after 8" here too
unfoldable pub fresh_from01 : Model → ℕ → Moving → Run Moving
fresh_from01 m zero g = ends all_done g
fresh_from01 m (suc n) g = move_on m g (λ g'. fresh_from01 m n g') (if_room_fresh m g.store g.state (move01 (knowing m g.store) g.state))

-- ---- a run but for flags: its number, its events, and what it leaves, table and store among it, with the flags of the state left out

abbrev pub unflagged_run : Run Going → Run Going
unflagged_run r = record { events = r.events; number = r.number; left = going (unflagged r.left.state) r.left.table r.left.store }

abbrev pub unflagged_fresh : Run Moving → Run Moving
unflagged_fresh r = record { events = r.events; number = r.number; left = moving (unflagged r.left.state) r.left.store }

-- an answer of the calls, so
abbrev pub unflagged_ran : WithStore Ran → WithStore Ran
unflagged_ran w =
    let a : Ran = w.answer in
    record { answer = record { number = a.number; position = a.position; state = unflagged a.state; table = a.table; made = a.made }; store = w.store }

abbrev pub unflagged_fresh_ran : WithStore FreshRan → WithStore FreshRan
unflagged_fresh_ran w =
    let a : FreshRan = w.answer in
    record { answer = record { number = a.number; position = a.position; state = unflagged a.state; made = a.made }; store = w.store }

-- ---- the other version: an image of bytes, the first of them 2, that decodes to a model and ends at a bit

pub record SecondVersion (m : Model) (end : ℕ) : Type 0 where
  pub image : List ℕ
  pub bytes : are_bytes image ≡ true
  pub first_two : get_or image 0 0 ≡ 2
  pub decodes : decode image ≡ read_got m end

-- two images that nobody can tell apart by a call: what is asked before opening, open, run and run without a table, with what is lent and with nothing, their events and the
-- printed lines, and refresh
pub record SameAnswers (image image' : List ℕ) : Type 0 where
  pub needed : needed_of image ≡ needed_of image'
  pub opened : (table : List ℕ) → open_of image table ≡ open_of image' table
  pub run : (s : State) (table : List ℕ) (steps lent : ℕ) (words : List ℕ) → run_lent image s table steps lent words ≡ run_lent image' s table steps lent words
  pub traced : (s : State) (table : List ℕ) (steps : ℕ) (lent : Option (List ℕ)) → trace_lent image s table steps lent ≡ trace_lent image' s table steps lent
  pub run_alone : (s : State) (table : List ℕ) (steps : ℕ) → run_of image s table steps ≡ run_of image' s table steps
  pub refreshed : (s : State) (mark : ℕ) (table : List ℕ) → refresh_of image s mark table ≡ refresh_of image' s mark table
  pub fresh_run : (s : State) (steps lent : ℕ) (words : List ℕ) → fresh_lent image s steps lent words ≡ fresh_lent image' s steps lent words
  pub fresh_traced : (s : State) (steps : ℕ) (lent : Option (List ℕ)) → fresh_trace_lent image s steps lent ≡ fresh_trace_lent image' s steps lent
  pub fresh_alone : (s : State) (steps : ℕ) → fresh_of image s steps ≡ fresh_of image' s steps
  pub lines : printed image ≡ printed image'
