-- The buffers that a rule's actions clear, as a mask, and the chunk that a buffer gives when it is cleared.
use Rattle.std.specs.Prelude.{ℕ, ◌≡◌, Bool, ◌&&◌, not, List, []}
use Rattle.meaning.specs.declared.Buffer.{Buffer}
use Rattle.meaning.specs.Base.{bit, admit}
use Rattle.meaning.specs.Model.{Action, Chunk}
use Rattle.meaning.specs.State.{visible, is_nil}
use Rattle.meaning.specs.Fire.{deed_on}
use Rattle.meaning.specs.Learning.{is_clear, chunk_of}

-- place b of the mask tells whether the deed on buffer b is a clear
abbrev pub ClearMask : List Action → ℕ → Type 0
ClearMask as' mask = (b : ℕ) → bit mask b ≡ is_clear (deed_on as' b)

-- visible, and holding another chunk than nil
abbrev pub gives : Buffer → Bool
gives b = visible b && not (is_nil b)

-- its chunk, if it gives one
abbrev pub given : Buffer → List Chunk
given b = admit (gives b) (chunk_of b) []
