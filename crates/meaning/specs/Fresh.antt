-- The run without a table (request 2026-02): "matches every rule afresh at each step". Nothing goes from step to step but the state, and a store that is lent.
use Rattle.std.specs.Prelude.{if◌then◌else◌, not, List, [], ◌∷◌, ℕ, zero, suc, ◌+◌, leb, length, get_or, drop, ℤ, pos}
use Rattle.std.proofs.Math.Option.{Option, none, some}
use Rattle.meaning.specs.declared.State.{State}
use Rattle.meaning.specs.Base.{keep}
use Rattle.meaning.specs.Highest.{highest}
use Rattle.meaning.specs.Numbers.{all_done, ill_formed, clock_full, halted, store_full, bad_store}
use Rattle.meaning.specs.Model.{Model, Rule, Chunk, Fact}
use Rattle.meaning.specs.State.{well_formed}
use Rattle.meaning.specs.Read.{Read, read_refused, read_got}
use Rattle.meaning.specs.Image.{decode}
use Rattle.meaning.specs.Match.{entry_of}
use Rattle.meaning.specs.Choice.{Candidate, counts, lower, utilities}
use Rattle.meaning.specs.Fire.{fire}
use Rattle.meaning.specs.Wait.{soonest, wait}
use Rattle.meaning.specs.Step.{Event, event_fired, event_waited, largest}
use Rattle.meaning.specs.Learning.{knowing, store_after, overfull}
use Rattle.meaning.specs.Run.{Run, ends, before}
use Rattle.meaning.specs.Store.{lent_by, store_fits, store_of, store_left}
use Rattle.meaning.specs.Calls.{place_of, WithStore}

-- ---- the choice

-- the rules from number k on, each with the next utility and its entry, worked out from the state
unfoldable pub matched : ℕ → List Rule → List ℤ → State → List Candidate
matched k [] utilities s = []
matched k (r ∷ rs) utilities s =
    record { number = k; rule = r; utility = get_or utilities 0 (pos 0); entry = entry_of r s } ∷ matched (k + 1) rs (drop 1 utilities) s

-- of the rules that match, "the highest utility is chosen, then the lowest number"
unfoldable pub choose_fresh : List Rule → List ℤ → State → Option Candidate
choose_fresh rules us s = highest lower none (keep counts (matched 0 rules us s))

-- ---- the step

-- the number that says why no step is made; or what the step does, and the state after it
pub data Move : Type 0 where
  stays : ℕ → Move
  moves : Event → State → Move

-- "clock would pass 4,294,967,295"
abbrev pub moves_to : Event → State → Move
moves_to e s' = if leb s'.clock largest then moves e s' else stays clock_full

-- "No entry matches and nothing is pending. No step is made."; else "the smallest such delay"
abbrev pub wait_fresh : State → ℕ → Move
wait_fresh s zero = stays halted
wait_fresh s (suc n) = moves_to (event_waited (suc n)) (wait (suc n) s)

-- "Fire.", with the values of the chosen entry; "Wait. No entry matches and some delay is above 0"
abbrev pub move_by : ℕ → List Fact → State → Option Candidate → Move
move_by failure memory s none = wait_fresh s (soonest 0 s.buffers)
move_by failure memory s (some c) = moves_to (event_fired c.number) (fire failure memory c.rule c.entry s)

-- a step with the facts in memory and the utilities that are handed over
unfoldable pub move : Model → List Fact → List ℤ → State → Move
move m memory us s = move_by m.failure memory s (choose_fresh m.rules us s)

-- the step with the image's own facts and utilities
abbrev pub move_of : Model → State → Move
move_of m s = move m m.facts (utilities m.rules) s

-- ---- the run

-- what goes from step to step: the state, and the store if one is lent
pub record Moving : Type 0 where
  pub state : State
  pub store : Option (List Chunk)

abbrev pub moving : State → Option (List Chunk) → Moving
moving s store = record { state = s; store = store }

-- "14, a step whose new facts would make more than 256, after 8"
abbrev pub if_room_fresh : Model → Option (List Chunk) → State → Move → Move
if_room_fresh m store s (stays n) = stays n
if_room_fresh m store s (moves e s') = if overfull (store_after m s e store) then stays store_full else (moves e s')

-- the step of a model with what the store knows
abbrev pub move_with : Model → Option (List Chunk) → State → Move
move_with m store s = if_room_fresh m store s (move_of (knowing m store) s)

-- "the state .. and count after the steps already made; the step in question changes nothing"
abbrev pub move_on : Model → Moving → (Moving → Run Moving) → Move → Run Moving
move_on m g next (stays n) = ends n g
move_on m g next (moves e s') = before (record { clock = s'.clock; event = e }) (next (moving s' (store_after m g.state e g.store)))

-- so many steps at most ("Run with 0 steps asked answers 0"),
-- each from the state and the store that the one before it left,
-- and from nothing else
unfoldable pub fresh_from : Model → ℕ → Moving → Run Moving
fresh_from m zero g = ends all_done g
fresh_from m (suc n) g = move_on m g (λ g'. fresh_from m n g') (move_with m g.store g.state)

-- ---- the call: "a run that takes image, state and steps and no table"

-- "Refusals: 1 to 4, 6, 8 and 9 in 01's order"; refused by 1 to 4, 6, 11 to 13 or 15 it gives "the state as handed in" and makes no step
abbrev pub fresh_by : State → Option (List ℕ) → ℕ → Read Model → Run Moving
fresh_by s lent steps (read_refused n at) = ends n (moving s none)
fresh_by s lent steps (read_got m at) =
    if not (well_formed m s) then ends ill_formed (moving s none)
    else (if not (store_fits m.types lent) then ends bad_store (moving s none)
    else fresh_from m steps (moving s (store_of lent)))

-- with its events
unfoldable pub fresh_trace_lent : List ℕ → State → ℕ → Option (List ℕ) → Run Moving
fresh_trace_lent image s steps lent = fresh_by s lent steps (decode image)

-- with nothing lent
abbrev pub fresh_trace_of : List ℕ → State → ℕ → Run Moving
fresh_trace_of image s steps = fresh_trace_lent image s steps none

pub record FreshRan : Type 0 where
  pub number : ℕ
  pub position : ℕ
  pub state : State
  pub made : ℕ

-- "the number, state and count"
abbrev pub fresh_ran_by : ℕ → Run Moving → FreshRan
fresh_ran_by position r = record { number = r.number; position = position; state = r.left.state; made = length r.events }

-- the general call: a word says what is lent of the words
unfoldable pub fresh_lent : List ℕ → State → ℕ → ℕ → List ℕ → WithStore FreshRan
fresh_lent image s steps lent words =
    let r : Run Moving = fresh_trace_lent image s steps (lent_by lent words) in
    record { answer = fresh_ran_by (place_of (decode image)) r; store = store_left words r.left.store }

-- with nothing lent
unfoldable pub fresh_of : List ℕ → State → ℕ → FreshRan
fresh_of image s steps = fresh_ran_by (place_of (decode image)) (fresh_trace_of image s steps)
