-- "Marked by a step: buffers acted on, and buffers that went from pending to visible."
use Rattle.std.specs.Prelude.{Bool, true, false, ◌&&◌, ◌||◌, not, List, map, ℕ, length}
use Rattle.std.proofs.Math.Option.{Option, none, some}
use Rattle.meaning.specs.declared.State.{State}
use Rattle.meaning.specs.Base.{up_from, weigh}
use Rattle.meaning.specs.Model.{Action}
use Rattle.meaning.specs.State.{buffer_of, visible}
use Rattle.meaning.specs.Fire.{deed_on}

abbrev pub is_some : {A : Type 0} → Option A → Bool
is_some none = false
is_some (some a) = true

-- "buffers acted on"
abbrev pub acted_on : List Action → ℕ → Bool
acted_on as' b = is_some (deed_on as' b)

-- "buffers that went from pending to visible"
abbrev pub arrived : State → State → ℕ → Bool
arrived s s' b = not (visible (buffer_of s b)) && visible (buffer_of s' b)

-- "buffer b has weight 2 to the power b"
unfoldable pub mark_of : List Action → State → State → ℕ
mark_of as' s s' = weigh (map (λ b. acted_on as' b || arrived s s' b) (up_from 0 (length s.buffers)))
