-- "A step": fire.
use Rattle.std.specs.Prelude.{if◌then◌else◌, false, List, [], ◌∷◌, ℕ, ◌+◌, ◌-◌, eqb, set}
use Rattle.std.proofs.Math.Option.{Option, none, some}
use Rattle.meaning.specs.declared.Buffer.{Buffer}
use Rattle.meaning.specs.declared.State.{State}
use Rattle.meaning.specs.Model.{Rule, Action, Deed, deed_modify, deed_request, deed_clear, Named, Fact}
use Rattle.meaning.specs.State.{nil_after}
use Rattle.meaning.specs.Retrieval.{value_of, retrieve, retrieved}

-- the named slots get their terms' values, the unnamed ones stay
unfoldable pub put : List Named → List ℕ → List ℕ → List ℕ
put [] entry slots = slots
put (n ∷ ns) entry slots = put ns entry (set slots n.slot (value_of entry n.term))

-- what a deed makes of a buffer, with the failure latency and the facts in memory:
-- "A modified buffer keeps its type and unnamed slots, and gets delay 0." "A requested buffer gets a fact .." "A cleared buffer holds nil, delay 0."
-- The error flag "is set when a request finds no fact, and any other action on that buffer clears it".
unfoldable pub done : ℕ → List Fact → List ℕ → Buffer → Deed → Buffer
done failure memory entry b (deed_modify ns) = record { isa = b.isa; slots = put ns entry b.slots; delay = 0; error = false }
done failure memory entry b (deed_request isa ns) = retrieved failure (retrieve memory isa ns entry)
done failure memory entry b deed_clear = nil_after 0

-- a buffer after some ms: its delay is lowered, "not below 0", and that alone
abbrev pub later : ℕ → Buffer → Buffer
later ms b = record { isa = b.isa; slots = b.slots; delay = b.delay - ms; error = b.error }

-- the deed of a rule on buffer b, if there is one ("at most one .. action per buffer in a rule")
unfoldable pub deed_on : List Action → ℕ → Option Deed
deed_on [] b = none
deed_on (a ∷ as') b = if eqb a.buffer b then some a.deed else deed_on as' b

-- "A buffer without an action loses 50 from its delay, not below 0."
abbrev pub after : ℕ → List Fact → List ℕ → Buffer → Option Deed → Buffer
after failure memory entry b none = later 50 b
after failure memory entry b (some d) = done failure memory entry b d

-- every buffer anew, from its number and what it was: "All actions read the state before the step."
unfoldable pub change : (ℕ → Buffer → Buffer) → ℕ → List Buffer → List Buffer
change f i [] = []
change f i (b ∷ bs) = f i b ∷ change f (i + 1) bs

-- "The clock rises by 50."
unfoldable pub fire : ℕ → List Fact → Rule → List ℕ → State → State
fire failure memory r entry s =
    record { buffers = change (λ i b. after failure memory entry b (deed_on r.actions i)) 0 s.buffers; clock = s.clock + 50 }
