-- What a step with nothing kept stands for, and what it promises.
use Rattle.std.specs.Prelude.{if◌then◌else◌, ℕ, ◌+◌, ◌≡◌, List, Result, Ok, Err}
use Rattle.meaning.specs.declared.State.{State}
use Rattle.meaning.specs.declared.reasons.Reason.{Reason}
use Rattle.meaning.specs.Reasons.{number_of}
use Rattle.meaning.specs.Numbers.{store_full}
use Rattle.meaning.specs.Fresh as meaning
use Rattle.layout.specs.declared.Plan.{Plan}
use Rattle.layout.specs.StateWords.{state_in}
use Rattle.step_learn.specs.Joins.{no_place}
use Rattle.step_made.specs.declared.Made.{Made}
use Rattle.step_made.specs.Made.{event_of, ms_of, ClockFits}

-- no step, by the number of its reason; else the event, and the state that the words stand for. `clock` is the clock before the step.
abbrev pub move_in : Result Made Reason → List ℕ → ℕ → meaning.Move
move_in (Err reason) w clock = meaning.stays (number_of reason)
move_in (Ok made) w clock = meaning.moves (event_of made.event) (state_in w (clock + ms_of made.event))

-- what is promised of an answer, with the state's words before and after: it is the step that the definitions give,
-- a refused step changes nothing, and the new clock fits
pub record MoveMet (move : meaning.Move) (r : Result Made Reason) (w w' : List ℕ) (clock : ℕ) : Type 0 where
  pub is_move : move_in r w' clock ≡ move
  pub kept : (reason : Reason) → r ≡ Err reason → w' ≡ w
  pub in_time : ClockFits r clock

-- ---- with a store

-- the step, unless what it adds has no place
abbrev pub placed_move : Plan → List ℕ → State → meaning.Move → meaning.Move
placed_move p tape s (meaning.stays number) = meaning.stays number
placed_move p tape s (meaning.moves e s') = if no_place p tape s e then meaning.stays store_full else (meaning.moves e s')
