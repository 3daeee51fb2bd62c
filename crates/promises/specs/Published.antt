-- The published semantics as relations, close to its own text (D. Gall, T. Frühwirth, A Refined Operational Semantics for ACT-R), with the points
-- that document 01 and change requests 2026-01, 2026-05 and 2026-06 decide. No step, match or choice is computed here, nor what joins a store (but which deed
-- stands on a buffer, what nil is, and the entry whose values a failed request asked for); that steps of `meaning` are these transitions says Semantics, that its
-- stores are these Remembering, and that its queries and flags are these Asking.
use Rattle.std.specs.Prelude.{◌≡◌, true, false, ◌↔◌, ℕ, ◌+◌, ◌-◌, ◌≤◌, ◌<◌, length, get_or, replicate}
use mathlib.Core.List.{List, [], ◌∷◌, ◌++◌, Memᴰ}
use Rattle.std.proofs.Math.Option.{Option, none, some}
use Rattle.std.specs.Int.Signed.{lt_z}
use Rattle.meaning.specs.declared.Buffer.{Buffer}
use Rattle.meaning.specs.declared.State.{State}
use Rattle.meaning.specs.Model.{Model, Rule, Test, Query, Ask, busy, free, error, Action, Deed, deed_modify, deed_request, deed_clear, Named, Term, symbol, variable, Chunk, Fact}
use Rattle.meaning.specs.State.{buffer_of}
use Rattle.meaning.specs.Image.{stands_in}
use Rattle.meaning.specs.Fire.{deed_on}
use Rattle.meaning.specs.Step.{Event, event_fired, event_waited, largest}
use Rattle.meaning.specs.Match.{entry_of, fresh_table}
use Rattle.meaning.specs.Choice.{Candidate}
use Rattle.meaning.specs.Run.{Timed}
use Rattle.meaning.specs.Learning.{knowing}
use Rattle.meaning.specs.Calls.{Ran}
use Rattle.meaning.specs.Fresh.{Moving, moving}
use Rattle.promises.specs.Words.{At, entry_at, nil_with, ClearedBy, Stands}

-- ---- matching (definition 11)

-- what a term stands for, once the variables are bound
abbrev pub stands_for : (ℕ → ℕ) → Term → ℕ
stands_for v (symbol x) = x
stands_for v (variable n) = v n

-- a test holds under a binding: its buffer is visible, of its type, each named slot has the value of its term, and none that a variable names is empty
pub record Holds (v : ℕ → ℕ) (s : State) (t : Test) : Type 0 where
  pub visible : (buffer_of s t.buffer).delay ≡ 0
  pub typed : (buffer_of s t.buffer).isa ≡ t.isa
  pub valued : (n : Named) → Memᴰ n t.named → get_or (buffer_of s t.buffer).slots n.slot 0 ≡ stands_for v n.term
  pub filled : (n : Named) → Memᴰ n t.named → (w : ℕ) → n.term ≡ variable w → get_or (buffer_of s t.buffer).slots n.slot 0 ≡ 0 → ⊥

-- what a query finds of its buffer: "0 busy (delay above 0), 1 free (delay 0), 2 error (visible, flag set)"
abbrev pub Finds : Ask → Buffer → Type 0
Finds busy b = 0 < b.delay
Finds free b = b.delay ≡ 0
Finds error b = (b.delay ≡ 0) × (b.error ≡ true)

-- a binding under which all tests of a rule hold, where its queries hold too
pub record Binds (r : Rule) (s : State) (v : ℕ → ℕ) : Type 0 where
  pub tests_hold : (t : Test) → Memᴰ t r.tests → Holds v s t
  pub queries_hold : (q : Query) → Memᴰ q r.queries → Finds q.asks (buffer_of s q.buffer)

-- r ⊑ σ: the rule matches if there is one
pub record Matches (r : Rule) (s : State) : Type 0 where
  pub binding : ℕ → ℕ
  pub binds : Binds r s binding

-- the binding that an entry holds: after its first word, the values of variables 0 to 7
abbrev pub values_in : List ℕ → ℕ → ℕ
values_in entry v = get_or entry (v + 1) 0

-- "An entry is 1 and then the values of variables 0 to 7 (0 where unused) if the rule matches, nine zeros if it does not."
pub record Entered (r : Rule) (s : State) (entry : List ℕ) : Type 0 where
  pub nine : length entry ≡ 9
  pub one : Matches r s → get_or entry 0 0 ≡ 1
  pub values : (v : ℕ → ℕ) → Binds r s v → (w : ℕ) → w < 8 → stands_in r.tests w ≡ true → values_in entry w ≡ v w
  pub unused : (w : ℕ) → w < 8 → stands_in r.tests w ≡ false → values_in entry w ≡ 0
  pub zeros : (Matches r s → ⊥) → entry ≡ replicate 9 0

-- ---- the choice in a table, whatever it holds

-- "Entries whose first word is 1 count as matching, all others as not."
abbrev pub CountsIn : List ℕ → ℕ → Type 0
CountsIn table k = get_or (entry_at k table) 0 0 ≡ 1

-- "Among those, the highest utility is chosen, then the lowest number."
pub record Picked (rules : List Rule) (table : List ℕ) (c : Candidate) : Type 0 where
  pub numbered : At c.rule c.number rules
  pub entry_is : c.entry ≡ entry_at c.number table
  pub counting : CountsIn table c.number
  pub none_higher : (j : ℕ) (q : Rule) → At q j rules → CountsIn table j → lt_z c.rule.utility q.utility ≡ false
  pub first_of_equals : (j : ℕ) (q : Rule) → At q j rules → CountsIn table j → q.utility ≡ c.rule.utility → c.number ≤ j

-- ---- selection (S_ref of section 5.1, with conflict resolution as document 01 decides it)

-- rule r, number k, matches; no matching rule has a higher utility, and none of the same utility has a lower number
pub record Selected (m : Model) (s : State) (k : ℕ) (r : Rule) : Type 0 where
  pub numbered : At r k m.rules
  pub matching : Matches r s
  pub none_higher : (j : ℕ) (q : Rule) → At q j m.rules → Matches q s → lt_z r.utility q.utility ≡ false
  pub first_of_equals : (j : ℕ) (q : Rule) → At q j m.rules → Matches q s → q.utility ≡ r.utility → k ≤ j

-- S_ref is empty
abbrev pub NoneSelected : Model → State → Type 0
NoneSelected m s = (k : ℕ) (r : Rule) → At r k m.rules → Matches r s → ⊥

-- (A state of the machine has eight buffers of eight slots. Where a state is just lists of any length, as here, what is said of a buffer or a slot
-- is said of one that is there: that is what `< length` stands for below.)

-- ---- effects of actions (definition 7, I_ref of section 5.1): what an action makes of its buffer, `old` before and `new` after

-- modification: the type stays, delay 0, val(s) is v where the action names s, and old(s) otherwise; the flag is clear
pub record Modified (v : ℕ → ℕ) (ns : List Named) (old new : Buffer) : Type 0 where
  pub same_type : new.isa ≡ old.isa
  pub at_once : new.delay ≡ 0
  pub as_many : length new.slots ≡ length old.slots
  pub named : (n : Named) → Memᴰ n ns → n.slot < length old.slots → get_or new.slots n.slot 0 ≡ stands_for v n.term
  pub unnamed : (i : ℕ) → ((n : Named) → Memᴰ n ns → n.slot ≡ i → ⊥) → get_or new.slots i 0 ≡ get_or old.slots i 0
  pub unflagged : new.error ≡ false

-- request_b: a fact of the type asked for, whose named slots have the values asked for
pub record Fits (v : ℕ → ℕ) (isa : ℕ) (ns : List Named) (f : Fact) : Type 0 where
  pub typed : f.chunk.isa ≡ isa
  pub valued : (n : Named) → Memᴰ n ns → get_or f.chunk.slots n.slot 0 ≡ stands_for v n.term

-- sel_req_b: the fitting fact of highest activation, the lowest number among equals
pub record Retrieved (facts : List Fact) (v : ℕ → ℕ) (isa : ℕ) (ns : List Named) (k : ℕ) (f : Fact) : Type 0 where
  pub numbered : At f k facts
  pub fitting : Fits v isa ns f
  pub none_higher : (j : ℕ) (g : Fact) → At g j facts → Fits v isa ns g → g.activation ≤ f.activation
  pub first_of_equals : (j : ℕ) (g : Fact) → At g j facts → Fits v isa ns g → g.activation ≡ f.activation → k ≤ j

-- The error flag "is set when a request finds no fact, and any other action on that buffer clears it"
pub data Effect (m : Model) (v : ℕ → ℕ) (old : Buffer) : Deed → Buffer → Type 0 where
  modify : {ns : List Named} {new : Buffer} → Modified v ns old new → Effect m v old (deed_modify ns) new
  -- the fact comes after its latency
  request : {isa : ℕ} {ns : List Named} {k : ℕ} {f : Fact} → Retrieved m.facts v isa ns k f
      → Effect m v old (deed_request isa ns) (record { isa = f.chunk.isa; slots = f.chunk.slots; delay = f.latency; error = false })
  -- nil comes after the failure latency, if no fact fits, and the flag is set
  fail : {isa : ℕ} {ns : List Named} → ((k : ℕ) (f : Fact) → At f k m.facts → Fits v isa ns f → ⊥) → Effect m v old (deed_request isa ns) (nil_with m.failure true)
  clear : Effect m v old deed_clear (nil_with 0 false)

-- ---- transitions (definition 10, with the parameters of section 5.1)

-- (c, d ⊖ δ): the chunk stays, the delay is lowered, not below 0 (`-` on ℕ is ⊖), and the flag stays
pub record Aged (ms : ℕ) (old new : Buffer) : Type 0 where
  pub same_type : new.isa ≡ old.isa
  pub same_slots : new.slots ≡ old.slots
  pub sooner : new.delay ≡ old.delay - ms
  pub same_flag : new.error ≡ old.error

-- Apply: each action has its effect, every other buffer ages by δ = 50 ms, and so does the clock
pub record Applied (m : Model) (r : Rule) (v : ℕ → ℕ) (s s' : State) : Type 0 where
  pub as_many : length s'.buffers ≡ length s.buffers
  pub acted : (a : Action) → Memᴰ a r.actions → a.buffer < length s.buffers → Effect m v (buffer_of s a.buffer) a.deed (buffer_of s' a.buffer)
  pub others : (b : ℕ) → b < length s.buffers → ((a : Action) → Memᴰ a r.actions → a.buffer ≡ b → ⊥) → Aged 50 (buffer_of s b) (buffer_of s' b)
  pub time : s'.clock ≡ s.clock + 50

-- d* = min { d | d > 0, γ(b) = (c, d) }
pub record LeastDelay (s : State) (ms : ℕ) : Type 0 where
  pub above : 0 < ms
  pub buffer : ℕ
  pub there : buffer < length s.buffers
  pub is : (buffer_of s buffer).delay ≡ ms
  pub least : (b : ℕ) → b < length s.buffers → 0 < (buffer_of s b).delay → ms ≤ (buffer_of s b).delay

-- No Rule: every buffer ages by d*, and so does the clock
pub record Passed (ms : ℕ) (s s' : State) : Type 0 where
  pub as_many : length s'.buffers ≡ length s.buffers
  pub aged : (b : ℕ) → b < length s.buffers → Aged ms (buffer_of s b) (buffer_of s' b)
  pub time : s'.clock ≡ s.clock + ms

-- σ ↦ σ', with what happened
pub data Transition (m : Model) (s : State) : Event → State → Type 0 where
  apply : {k : ℕ} {r : Rule} {s' : State} (v : ℕ → ℕ) → Selected m s k r → Binds r s v → Applied m r v s s' → Transition m s (event_fired k) s'
  no-rule : {ms : ℕ} {s' : State} → NoneSelected m s → LeastDelay s ms → Passed ms s s' → Transition m s (event_waited ms) s'

-- a final state: no transition is possible
abbrev pub Final : Model → State → Type 0
Final m s = (e : Event) (s' : State) → Transition m s e s' → ⊥

-- ---- the error flag (request 2026-06)

-- why the flag of a buffer is set after a step from state s that did e, with these facts in memory
pub data Flagged (rules : List Rule) (memory : List Fact) (s : State) (b : ℕ) : Event → Type 0 where
  -- "It is set when a request finds no fact": the rule that fired requests it, and no fact fits, with the values of its entry
  unfound : {k : ℕ} {r : Rule} {isa : ℕ} {ns : List Named} → At r k rules → deed_on r.actions b ≡ some (deed_request isa ns)
      → ((j : ℕ) (f : Fact) → At f j memory → Fits (values_in (entry_of r s)) isa ns f → ⊥) → Flagged rules memory s b (event_fired k)
  -- "and any other action on that buffer clears it": it was set, and the rule that fired has no action on it
  unacted : {k : ℕ} {r : Rule} → At r k rules → deed_on r.actions b ≡ none → (buffer_of s b).error ≡ true → Flagged rules memory s b (event_fired k)
  -- a wait leaves it as it was
  unaltered : {ms : ℕ} → (buffer_of s b).error ≡ true → Flagged rules memory s b (event_waited ms)

-- ---- the store, if one is lent (request 2026-05)

-- what joins a store `cs` where rule k fires in state s: "When a clear action empties a visible buffer holding another chunk than nil, that chunk joins the store .., unless a
-- fact with the same type and slots stands in the image or the store", and nothing else does; "equal chunks are stored once"; "by rising buffer number"
pub record Joins (m : Model) (s : State) (k : ℕ) (cs new : List Chunk) : Type 0 where
  pub exactly : (c : Chunk) → ((j : ℕ) × At c j new) ↔ (ClearedBy m.rules s k c × (Stands (knowing m (some cs)).facts c → ⊥))
  pub once : (i j : ℕ) (c : Chunk) → At c i new → At c j new → i ≡ j
  -- what joins first is cleared from a buffer before every one that the next is cleared from
  pub rising : (i j : ℕ) (c d : Chunk) → At c i new → At d j new → i < j → (o : ClearedBy m.rules s k c) × ((p : ClearedBy m.rules s k d) → o.buffer < p.buffer)

-- the store before a transition from state s that did e, and after it
pub data Stores (m : Model) (s : State) : Event → Option (List Chunk) → Option (List Chunk) → Type 0 where
  -- where none is lent there is none
  none_lent : {e : Event} → Stores m s e none none
  -- No Rule leaves it as it was
  waited : {ms : ℕ} {cs : List Chunk} → Stores m s (event_waited ms) (some cs) (some cs)
  -- Apply puts what joins after it, "in the order learned"
  joined : {k : ℕ} {cs new : List Chunk} → Joins m s k cs new → Stores m s (event_fired k) (some cs) (some (cs ++ new))

-- "places for 256 learned facts"
abbrev pub HasRoom : Option (List Chunk) → Type 0
HasRoom store = (cs : List Chunk) → store ≡ some cs → length cs ≤ 256

-- ---- one after the other, from what goes from step to step: a state, and the store if one is lent

-- transitions, one after the other, none past the last clock and none that would leave more than 256 facts in a store: with what each did, and the clock after it.
-- The memory of each is "image facts, then store facts numbered after them", and where nothing is lent the image's alone
pub data Transitions (m : Model) : List Timed → Moving → Moving → Type 0 where
  no_step : {g : Moving} → Transitions m [] g g
  one-step : {e : Event} {es : List Timed} {g g'' : Moving} {s' : State} {store' : Option (List Chunk)} → Transition (knowing m g.store) g.state e s' → s'.clock ≤ largest
      → Stores m g.state e g.store store' → HasRoom store' → Transitions m es (moving s' store') g'' → Transitions m (record { clock = s'.clock; event = e } ∷ es) g g''

-- a transition is possible, and would pass the last clock
pub record Passes (m : Model) (s : State) : Type 0 where
  pub event : Event
  pub state : State
  pub transition : Transition m s event state
  pub past : largest < state.clock

-- a transition is possible within the clock, and its new facts would make more than 256
pub record Crowds (m : Model) (g : Moving) : Type 0 where
  pub event : Event
  pub state : State
  pub transition : Transition (knowing m g.store) g.state event state
  pub in_time : state.clock ≤ largest
  pub after : List Chunk
  pub stores : Stores m g.state event g.store (some after)
  pub too_many : 256 < length after

-- why a run of so many steps asked, which made so many, ended with its number (by 14 only where a store is lent)
pub data Ended (m : Model) (asked made : ℕ) (g : Moving) : ℕ → Type 0 where
  done : made ≡ asked → Ended m asked made g 0
  full : made < asked → Passes (knowing m g.store) g.state → Ended m asked made g 8
  over : made < asked → Final (knowing m g.store) g.state → Ended m asked made g 9
  crowded : made < asked → Crowds m g → Ended m asked made g 14

-- what is promised of a run that answered `a`, told `events` and left a store if one was lent: its steps are transitions from what was handed in to what is given
-- back, these are what each of them did, in order, and as many as it says; its number says why there are no more; and the table that it leaves is fresh
pub record RanOn (m : Model) (g : Moving) (asked : ℕ) (events : List Timed) (a : Ran) (store : Option (List Chunk)) : Type 0 where
  pub path : Transitions m events g (moving a.state store)
  pub counted : a.made ≡ length events
  pub ended : Ended m asked a.made (moving a.state store) a.number
  pub fresh : a.table ≡ fresh_table m.rules a.state

-- what is promised of a run, of so many steps asked from a state and the store if one is lent, that told `events` and gave back what it left, a count and a number
pub record Follows (m : Model) (g : Moving) (asked : ℕ) (events : List Timed) (g' : Moving) (made number : ℕ) : Type 0 where
  -- the steps made are transitions from what was handed in to what is given back, in the order told, each with the clock after it, and as many as counted
  pub path : Transitions m events g g'
  pub counted : made ≡ length events
  -- no others are possible: so many transitions from there are these
  pub no_other : (es : List Timed) (g'' : Moving) → Transitions m es g g'' → length es ≡ made → (es ≡ events) × (g'' ≡ g')
  -- the number says why there are no more: 0, all that were asked; 8, the next would pass the last clock; 9, there is none; 14, its new facts have no room in the
  -- store. It is no other number
  pub ended : Ended m asked made g' number
