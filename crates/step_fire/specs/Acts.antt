-- The buffers that are acted on, as a mask, and what the actions alone make of a buffer.
use Rattle.std.specs.Prelude.{ℕ, ◌≡◌, List}
use Rattle.std.proofs.Math.Option.{Option, none, some}
use Rattle.meaning.specs.declared.Buffer.{Buffer}
use Rattle.meaning.specs.Base.{bit}
use Rattle.meaning.specs.Model.{Action, Deed, Fact}
use Rattle.meaning.specs.Fire.{done}
use Rattle.meaning.specs.Mark.{acted_on}

-- place k of the mask tells whether buffer k is acted on
abbrev pub ActedMask : List Action → ℕ → Type 0
ActedMask as' mask = (k : ℕ) → bit mask k ≡ acted_on as' k

-- a buffer after the deed on it, if there is one
abbrev pub acting : ℕ → List Fact → List ℕ → Buffer → Option Deed → Buffer
acting failure memory entry b none = b
acting failure memory entry b (some d) = done failure memory entry b d
