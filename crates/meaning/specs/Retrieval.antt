-- "A step", the retrieval of a fact.
use Rattle.std.specs.Prelude.{Bool, true, false, ◌&&◌, List, ℕ, ◌+◌, ltb, eqb, get_or, replicate}
use Rattle.std.proofs.Math.Option.{Option, none, some}
use Rattle.meaning.specs.declared.Buffer.{Buffer}
use Rattle.meaning.specs.Base.{every, keep}
use Rattle.meaning.specs.Highest.{highest}
use Rattle.meaning.specs.Model.{Named, Term, symbol, variable, Fact}

-- what a term of an action stands for: a symbol, or the value of a variable in the chosen entry
abbrev pub value_of : List ℕ → Term → ℕ
value_of entry (symbol x) = x
value_of entry (variable v) = get_or entry (v + 1) 0

-- "a fact of that type whose named slots equal the terms"
abbrev pub fits : ℕ → List Named → List ℕ → Fact → Bool
fits isa ns entry f =
    eqb f.chunk.isa isa && every (λ n. eqb (get_or f.chunk.slots n.slot 0) (value_of entry n.term)) ns

abbrev pub weaker : Fact → Fact → Bool
weaker f g = ltb f.activation g.activation

-- "the highest activation, then the lowest fact number"
unfoldable pub retrieve : List Fact → ℕ → List Named → List ℕ → Option Fact
retrieve memory isa ns entry = highest weaker none (keep (fits isa ns entry) memory)

-- "with the fact's latency as its delay. If no fact fits it gets nil with the failure latency." The error flag "is set when a request finds no fact"
abbrev pub retrieved : ℕ → Option Fact → Buffer
retrieved failure none = record { isa = 0; slots = replicate 8 0; delay = failure; error = true }
retrieved failure (some f) = record { isa = f.chunk.isa; slots = f.chunk.slots; delay = f.latency; error = false }
