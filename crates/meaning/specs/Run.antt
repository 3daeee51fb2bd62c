-- One step after the other: a run, its events and its end together.
use Rattle.std.specs.Prelude.{List, [], ◌∷◌, ℕ, zero, suc}
use Rattle.std.proofs.Math.Option.{Option}
use Rattle.meaning.specs.declared.State.{State}
use Rattle.meaning.specs.Numbers.{all_done}
use Rattle.meaning.specs.Model.{Model, Chunk}
use Rattle.meaning.specs.Step.{Event, Step, step_stopped, step_made}
use Rattle.meaning.specs.Learning.{store_after, step_with}
use Rattle.meaning.specs.Refresh.{refresh}

-- what goes from step to step: state and table, and the store if one is lent
pub record Going : Type 0 where
  pub state : State
  pub table : List ℕ
  pub store : Option (List Chunk)

abbrev pub going : State → List ℕ → Option (List Chunk) → Going
going s table store = record { state = s; table = table; store = store }

-- a step that was made, and the clock after it
pub record Timed : Type 0 where
  pub clock : ℕ
  pub event : Event

-- a run: its events in their order, the number that it ended by, and what it left of what goes from step to step
pub record Run (Left : Type 0) : Type 0 where
  pub events : List Timed
  pub number : ℕ
  pub left : Left

module _ {Left : Type 0} where
  -- no step more is made, for this reason
  abbrev pub ends : ℕ → Left → Run Left
  ends number g = record { events = []; number = number; left = g }

  -- a step, and the run that follows it
  abbrev pub before : Timed → Run Left → Run Left
  before e r = record { events = e ∷ r.events; number = r.number; left = r.left }

-- "After each step the table is refreshed with that mark." "Numbers 7, 8 and 9 return the state, table and count after the steps already made;
-- the step in question changes nothing." 14 is "like 8 in all it leaves".
abbrev pub go_on : Model → Going → (Going → Run Going) → Step → Run Going
go_on m g next (step_stopped n) = ends n g
go_on m g next (step_made e s' mark) =
    before (record { clock = s'.clock; event = e }) (next (going s' (refresh m.rules s' mark g.table) (store_after m g.state e g.store)))

-- so many steps at most
unfoldable pub run_from : Model → ℕ → Going → Run Going
run_from m zero g = ends all_done g
run_from m (suc n) g = go_on m g (λ g'. run_from m n g') (step_with m g.store g.state g.table)
