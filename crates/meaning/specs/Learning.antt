-- "A cleared chunk is remembered" (request 2026-05): the memory that a step reads, and what joins the store in it.
use Rattle.std.specs.Prelude.{if◌then◌else◌, Bool, true, false, ◌&&◌, not, List, [], ◌∷◌, ◌++◌, map, ℕ, ◌+◌, eqb, ltb, length, get_or}
use Rattle.std.proofs.Math.Option.{Option, none, some}
use Rattle.meaning.specs.declared.Buffer.{Buffer}
use Rattle.meaning.specs.declared.State.{State}
use Rattle.meaning.specs.Base.{any_of, admit, same}
use Rattle.meaning.specs.Numbers.{store_full}
use Rattle.meaning.specs.Model.{Model, Rule, Action, Deed, deed_modify, deed_request, deed_clear, Chunk, Fact}
use Rattle.meaning.specs.State.{visible, is_nil}
use Rattle.meaning.specs.Fire.{deed_on}
use Rattle.meaning.specs.Step.{Event, event_fired, event_waited, Step, step_stopped, step_made, step_of}

-- a store is a list of chunks, "in the order learned"; where none is lent there is none

-- ---- the memory

-- a chunk of the store as a fact: "with activation 0 and latency 50 ms"
abbrev pub learned : Chunk → Fact
learned c = record { chunk = c; activation = 0; latency = 50 }

-- the model as a step reads it: "image facts, then store facts numbered after them"
abbrev pub knowing : Model → Option (List Chunk) → Model
knowing m none = m
knowing m (some store) =
    record { buffers = m.buffers; types = m.types; failure = m.failure; opening = m.opening; facts = m.facts ++ map learned store; rules = m.rules }

-- the chunks of the facts that it knows
abbrev pub chunks_of : List Fact → List Chunk
chunks_of facts = map (λ (f : Fact). f.chunk) facts

-- ---- what joins the store in a step

abbrev pub chunk_of : Buffer → Chunk
chunk_of b = record { isa = b.isa; slots = b.slots }

-- whether the deed on a buffer is "a clear action"
abbrev pub is_clear : Option Deed → Bool
is_clear none = false
is_clear (some (deed_modify ns)) = false
is_clear (some (deed_request isa ns)) = false
is_clear (some deed_clear) = true

-- "When a clear action empties a visible buffer holding another chunk than nil": those chunks, "by rising buffer number" from i on
unfoldable pub cleared : List Action → ℕ → List Buffer → List Chunk
cleared as' i [] = []
cleared as' i (b ∷ bs) = admit (is_clear (deed_on as' i) && (visible b && not (is_nil b))) (chunk_of b) (cleared as' (i + 1) bs)

-- "with the same type and slots"
abbrev pub equal : Chunk → Chunk → Bool
equal c d = eqb c.isa d.isa && same c.slots d.slots

-- a chunk joins "unless a fact with the same type and slots stands" among the known ones; those after it know it too, "so equal chunks are stored once"
unfoldable pub joining : List Chunk → List Chunk → List Chunk
joining known [] = []
joining known (c ∷ cs) = if any_of (equal c) known then joining known cs else (c ∷ joining (known ++ (c ∷ [])) cs)

-- the actions of rule k
abbrev pub actions_of : List Rule → ℕ → List Action
actions_of rules k = get_or (map (λ (r : Rule). r.actions) rules) k []

-- what a step adds, by the model's memory and the state before it: a firing what its rule clears, a wait nothing
abbrev pub adds : Model → State → Event → List Chunk
adds m s (event_fired k) = joining (chunks_of m.facts) (cleared (actions_of m.rules k) 0 s.buffers)
adds m s (event_waited ms) = []

-- ---- a step with a store

-- the store after a step from state s
abbrev pub store_after : Model → State → Event → Option (List Chunk) → Option (List Chunk)
store_after m s e none = none
store_after m s e (some store) = some (store ++ adds (knowing m (some store)) s e)

-- "more than 256"
abbrev pub overfull : Option (List Chunk) → Bool
overfull none = false
overfull (some store) = ltb 256 (length store)

-- "14, a step whose new facts would make more than 256, after 8"
abbrev pub if_room : Model → Option (List Chunk) → State → Step → Step
if_room m store s (step_stopped n) = step_stopped n
if_room m store s (step_made e s' mark) = if overfull (store_after m s e store) then step_stopped store_full else (step_made e s' mark)

-- the step of a model with what the store knows
abbrev pub step_with : Model → Option (List Chunk) → State → List ℕ → Step
step_with m store s table = if_room m store s (step_of (knowing m store) s table)
