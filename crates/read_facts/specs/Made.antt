-- A chunk out of its parts.
use Rattle.std.specs.Prelude.{ℕ, List}
use Rattle.meaning.specs.Model.{Chunk}

abbrev pub a_chunk : ℕ → List ℕ → Chunk
a_chunk isa slots = record { isa = isa; slots = slots }
