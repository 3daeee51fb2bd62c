-- A state by value, and as it stands in words.
use Prim.Native.Nat.{ℕ}
use mathlib.Core.Path.{◌≡◌, sym, ap, ◌∙◌}
use mathlib.Core.Bool.{Bool}
use mathlib.Core.List.{List}
use Rattle.meaning.specs.declared.Buffer.{Buffer}
use Rattle.meaning.specs.declared.State.{State}
use Rattle.meaning.specs.Model.{Model}
use Rattle.meaning.specs.State.{well_formed}
use Rattle.layout.specs.StateWords.{buffers_in, state_in}
use Rattle.layout_state.specs.Words.{well_in, well-in}

pub state-is : (w : List ℕ) (s : State) → buffers_in w ≡ s.buffers → state_in w s.clock ≡ s
state-is w s e = ap (λ (bs : List Buffer). record { buffers = bs; clock = s.clock }) e

-- the state is as the words were judged, for a model with these types and so many buffers
pub well-by : (m : Model) (types : List ℕ) (buffers : ℕ) (w : List ℕ) (s : State) → m.buffers ≡ buffers → m.types ≡ types → buffers_in w ≡ s.buffers
    → (t x : Bool) → t ≡ well_in types buffers w → t ≡ x → well_formed m s ≡ x
well-by m types buffers w s eb et e t x judged g =
    let is : well_in types buffers w ≡ well_formed m s = rw (← eb, ← et) (sym (well-in m w s.clock) ∙ ap (well_formed m) (state-is w s e)) in
    sym is ∙ sym judged ∙ g
