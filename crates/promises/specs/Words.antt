-- The words in which the promises about tables, chains of calls, runs that are alike, stores and error flags are stated.
use Rattle.std.specs.Prelude.{◌≡◌, Bool, true, false, ◌&&◌, ◌⊎◌, ℕ, zero, suc, ◌+◌, ◌*◌, ◌≤◌, ◌<◌, leb, eqb, length, get_or, take, drop, replicate}
use mathlib.Core.List.{List, ◌∷◌, ◌++◌, Memᴰ}
use Rattle.std.proofs.Math.Option.{Option, none, some}
use Rattle.meaning.specs.declared.Buffer.{Buffer}
use Rattle.meaning.specs.declared.State.{State}
use Rattle.meaning.specs.Base.{every, keep, bit}
use Rattle.meaning.specs.Model.{Model, Rule, Test, Query, Action, deed_clear, variable, Chunk, Fact}
use Rattle.meaning.specs.State.{slot_count, buffer_of, is_nil}
use Rattle.meaning.specs.Fire.{deed_on}
use Rattle.meaning.specs.Learning.{knowing, chunk_of, adds}
use Rattle.meaning.specs.Store.{place_in, store_in, store_fits}
use Rattle.meaning.specs.Match.{Place, shows, answers, matches, entry_of}
use Rattle.meaning.specs.Step.{Event, event_fired, step_made, largest, step_of}
use Rattle.meaning.specs.Refresh.{tests_marked}
use Rattle.meaning.specs.Run.{Going, Run}
use Rattle.meaning.specs.Image.{decode}
use Rattle.meaning.specs.Calls.{accepted, place_of, open_of, trace_lent, Ran, ran_by, run_lent, refresh_of}
use Rattle.meaning.specs.Fresh.{Moving, moving, fresh_trace_lent, FreshRan, fresh_ran_by}

-- x is number k of a list, counted from 0
pub data At {A : Type 0} (x : A) : ℕ → List A → Type 0 where
  first : {xs : List A} → At x zero (x ∷ xs)
  next : {k : ℕ} {y : A} {xs : List A} → At x k xs → At x (suc k) (y ∷ xs)

-- the nine words of rule k in a table
abbrev pub entry_at : ℕ → List ℕ → List ℕ
entry_at k table = take 9 (drop (9 * k) table)

-- what a refresh promises: `table` was handed in, `new` came out, and so did the number `count`
pub record RefreshedTo (rules : List Rule) (s : State) (mark : ℕ) (table new : List ℕ) (count : ℕ) : Type 0 where
  -- a rule that tests or queries a marked buffer has the fresh entry
  pub fresh : (k : ℕ) (r : Rule) → At r k rules → tests_marked mark r ≡ true → entry_at k new ≡ entry_of r s
  -- every other rule has the entry that it had, word for word
  pub unaltered : (k : ℕ) (r : Rule) → At r k rules → tests_marked mark r ≡ false → entry_at k new ≡ entry_at k table
  -- the table is as long as it was
  pub as_long : length new ≡ length table
  -- the number says how many rules test or query a marked buffer
  pub counted : count ≡ length (keep (tests_marked mark) rules)

-- rule r tests or queries a marked buffer
pub data SeesMarked (mark : ℕ) (r : Rule) : Type 0 where
  by-test : {t : Test} → Memᴰ t r.tests → bit mark t.buffer ≡ true → SeesMarked mark r
  by-query : {q : Query} → Memᴰ q r.queries → bit mark q.buffer ≡ true → SeesMarked mark r

-- "eight buffers, each with a type, eight slot values and a delay in ms (0 to 65,535), and a 32-bit clock in ms": a word of 16 bits for each (an error flag is no word)
abbrev pub is_word : ℕ → Bool
is_word v = leb v 65535

abbrev pub is_buffer : Buffer → Bool
is_buffer b = eqb (length b.slots) 8 && (is_word b.isa && (every is_word b.slots && is_word b.delay))

-- a state as the machine has it: what a caller can hand in at all
pub record Machine (s : State) : Type 0 where
  pub eight : length s.buffers ≡ 8
  pub all_buffers : every is_buffer s.buffers ≡ true
  pub in_time : s.clock ≤ largest

-- the states and tables that a caller of one image can hold: those of an accepted opening, and then those that a kept run, with any words beside it, lent or not,
-- or a refresh gives back when it is handed the state and table left before it, whatever its number says (a refused call too); and the states that the caller
-- itself makes of them
pub data Reached (image : List ℕ) : State → List ℕ → Type 0 where
  opened : (table : List ℕ) → (open_of image table).number ≡ 0 → Reached image (open_of image table).state (open_of image table).table
  ran : {s : State} {table : List ℕ} → Reached image s table → (steps lent : ℕ) (words : List ℕ)
      → Reached image (run_lent image s table steps lent words).answer.state (run_lent image s table steps lent words).answer.table
  refreshed : {s : State} {table : List ℕ} → Reached image s table → (mark : ℕ) → Reached image s (refresh_of image s mark table).table
  -- the caller puts other chunks into buffers, or sets the clock, and refreshes with a mark of every buffer that it changed: the refresh answers 0
  changed : {s : State} {table : List ℕ} → Reached image s table → (s' : State) (mark : ℕ) → Machine s' → ((b : ℕ) → bit mark b ≡ false → buffer_of s b ≡ buffer_of s' b)
      → (refresh_of image s' mark table).number ≡ 0 → Reached image s' (refresh_of image s' mark table).table

-- of a list of places, one at which a variable stands and something is there
pub record FilledAt (ps : List Place) (w : ℕ) : Type 0 where
  pub place : Place
  pub place_in : Memᴰ place ps
  pub is : place.term ≡ variable w
  pub filled : place.value ≡ 0 → ⊥

-- rule number k matches the state as it is: each of its tests finds a visible chunk of its type in its buffer, and each of its queries holds
pub record Matching (m : Model) (s : State) (k : ℕ) : Type 0 where
  pub rule : Rule
  pub numbered : At rule k m.rules
  pub matching : matches rule s ≡ true
  pub tests_hold : (t : Test) → Memᴰ t rule.tests → shows t (buffer_of s t.buffer) ≡ true
  pub queries_hold : (q : Query) → Memᴰ q rule.queries → answers q.asks (buffer_of s q.buffer) ≡ true

-- "Marked by a step: buffers acted on, and buffers that went from pending to visible."
pub data Touched (m : Model) (s : State) (e : Event) (s' : State) (b : ℕ) : Type 0 where
  acted-on : {k : ℕ} {r : Rule} {a : Action} → e ≡ event_fired k → At r k m.rules → Memᴰ a r.actions → a.buffer ≡ b → Touched m s e s' b
  came : 0 < (buffer_of s b).delay → (buffer_of s' b).delay ≡ 0 → Touched m s e s' b

-- nil that is visible after some ms, with its error flag clear or set
abbrev pub nil_with : ℕ → Bool → Buffer
nil_with delay error = record { isa = 0; slots = replicate 8 0; delay = delay; error = error }

-- a state that goes from step to step where nothing is lent
abbrev pub alone : State → Moving
alone s = moving s none

-- what nobody can tell apart between a run that keeps a table and one without: the number, the state left, the store left if one is lent, and the events in their
-- order, each with the clock after it; and so the count
pub record AsKept (kept : Run Going) (fresh : Run Moving) : Type 0 where
  pub same_number : fresh.number ≡ kept.number
  pub same_state : fresh.left.state ≡ kept.left.state
  pub same_store : fresh.left.store ≡ kept.left.store
  pub same_events : fresh.events ≡ kept.events

-- the answer of a run where such words are lent, or none: with a table, and without one
abbrev pub ran_lent : List ℕ → State → List ℕ → ℕ → Option (List ℕ) → Ran
ran_lent image s table steps lent = ran_by (place_of (accepted image table)) (trace_lent image s table steps lent)

abbrev pub fresh_ran_lent : List ℕ → State → ℕ → Option (List ℕ) → FreshRan
fresh_ran_lent image s steps lent = fresh_ran_by (place_of (decode image)) (fresh_trace_lent image s steps lent)

-- the answer of a run that keeps a table, but for the table: number, position, state and count
abbrev pub answer_of : Ran → FreshRan
answer_of a = record { number = a.number; position = a.position; state = a.state; made = a.made }

-- ---- request 2026-05: what a store learns

-- "When a clear action empties a visible buffer holding another chunk than nil": c is that chunk, where rule k fires in state s
pub record ClearedBy (rules : List Rule) (s : State) (k : ℕ) (c : Chunk) : Type 0 where
  pub rule : Rule
  pub numbered : At rule k rules
  pub buffer : ℕ
  pub there : buffer < length s.buffers
  pub clears : deed_on rule.actions buffer ≡ some deed_clear
  pub seen : (buffer_of s buffer).delay ≡ 0
  pub filled : is_nil (buffer_of s buffer) ≡ false
  pub held : chunk_of (buffer_of s buffer) ≡ c

-- a chunk that is "a fact that the image could .. hold": its type is 1 to T, its values are symbols, and its slots past the type's count are empty
pub record Holdable (types : List ℕ) (c : Chunk) : Type 0 where
  pub declared : 0 < c.isa
  pub no_larger : c.isa < length types
  pub symbols : (b v : ℕ) → At v b c.slots → v ≤ 4095
  pub past_empty : (b v : ℕ) → At v b c.slots → slot_count types c.isa ≤ b → v ≡ 0

-- words that are a store: "256 places", a count that is not "over 256", and below it such facts, equal ones too; of what the count does not cover nothing is asked
pub record IsStore (types words : List ℕ) : Type 0 where
  pub as_long : length words ≡ 2305
  pub counted : get_or words 0 0 ≤ 256
  pub below : (i : ℕ) → i < get_or words 0 0 → Holdable types (place_in words i)

-- "unless a fact with the same type and slots stands in the image or the store", "so equal chunks are stored once": `new` joins a store `old` beside an image's facts
pub record Learned (facts : List Fact) (old new : List Chunk) : Type 0 where
  pub not_of_image : (j k : ℕ) (c : Chunk) (f : Fact) → At c j new → At f k facts → f.chunk ≡ c → ⊥
  pub not_of_store : (j k : ℕ) (c : Chunk) → At c j new → At c k old → ⊥
  pub once : (j k : ℕ) (c : Chunk) → At c j new → At c k new → j ≡ k

-- a store that grew from `cs`: "in the order learned", and never more than 256
pub record Growth (m : Model) (cs : List Chunk) (store : Option (List Chunk)) : Type 0 where
  pub new : List Chunk
  pub is : store ≡ some (cs ++ new)
  pub learns : Learned m.facts cs new
  pub most : length (cs ++ new) ≤ 256

-- a step whose new facts would make more than 256
pub record Overfull (m : Model) (cs : List Chunk) (s : State) (table : List ℕ) : Type 0 where
  pub event : Event
  pub state : State
  pub mark : ℕ
  pub made : step_of (knowing m (some cs)) s table ≡ step_made event state mark
  pub too_many : 256 < length (cs ++ adds (knowing m (some cs)) s event)

-- a fact of a memory that has the type and slots of c, and its number
pub record Stands (memory : List Fact) (c : Chunk) : Type 0 where
  pub place : ℕ
  pub fact : Fact
  pub numbered : At fact place memory
  pub is : fact.chunk ≡ c

-- fact f, number j, is found before fact g, number k, where both fit: "the highest activation, then the lowest fact number"
abbrev pub Before : Fact → ℕ → Fact → ℕ → Type 0
Before f j g k = (g.activation < f.activation) ⊎ ((f.activation ≡ g.activation) × (j < k))

-- what a call may do to the words of a store: none is gone, and each word of a place below the old count, and each past the new count, is the same
pub record OnlyGrows (words left : List ℕ) : Type 0 where
  pub as_long : length left ≡ length words
  pub no_fewer : get_or words 0 0 ≤ get_or left 0 0
  pub old_places : (i : ℕ) → 0 < i → i ≤ 9 * get_or words 0 0 → get_or left i 0 ≡ get_or words i 0
  pub past : (i : ℕ) → 9 * get_or left 0 0 < i → get_or left i 0 ≡ get_or words i 0

-- and what it does where it is not refused: the chunks below the old count stay, in their order, and new ones join after them; there are never more than 256, and what
-- is left is a store that the next call takes
pub record Grows (m : Model) (words left : List ℕ) : Type 0 where
  pub new : List Chunk
  pub in_order : store_in left ≡ store_in words ++ new
  pub counted : get_or left 0 0 ≡ get_or words 0 0 + length new
  pub most : get_or left 0 0 ≤ 256
  pub learns : Learned m.facts (store_in words) new
  pub taken_again : store_fits m.types (some left) ≡ true
