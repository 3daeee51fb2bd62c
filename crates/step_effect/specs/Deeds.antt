-- What a deed makes of a buffer, from the words that it is done by.
use Rattle.std.specs.Prelude.{ℕ, ◌+◌, false, List, eqb, get_or, replicate}
use Rattle.meaning.specs.declared.Buffer.{Buffer}
use Rattle.meaning.specs.Model.{Named}
use Rattle.meaning.specs.Fire.{put}
use Rattle.layout.specs.Rows.{rows_in}

-- a chunk whose slot values stand in words, with its delay and the word of its error flag
abbrev pub chunk_in : ℕ → List ℕ → ℕ → ℕ → ℕ → Buffer
chunk_in isa w at delay flag = record { isa = isa; slots = rows_in (λ b. get_or w (at + b) 0) 0 8; delay = delay; error = eqb flag 1 }

-- nil with these
abbrev pub nil_in : ℕ → ℕ → Buffer
nil_in delay flag = record { isa = 0; slots = replicate 8 0; delay = delay; error = eqb flag 1 }

-- "A modified buffer keeps its type and unnamed slots, and gets delay 0." The error flag: "any other action on that buffer clears it"
abbrev pub modified : List Named → List ℕ → Buffer → Buffer
modified ns entry b = record { isa = b.isa; slots = put ns entry b.slots; delay = 0; error = false }
