-- A step with nothing kept but what is learned, and the run that goes on from it.
use Rattle.std.specs.Prelude.{if◌then◌else◌}
use Prim.Native.Nat.{ℕ, suc, ◌+◌}
use mathlib.Core.Path.{◌≡◌, refl, sym, ap, ◌∙◌}
use mathlib.Core.Bool.{Bool}
use mathlib.Core.List.{List}
use mathlib.Core.Option.{Option}
use Rattle.std.specs.Prelude.{Result, Ok, Err, IfOk, IfErr, OnErr}
use Rattle.meaning.specs.declared.State.{State}
use Rattle.meaning.specs.declared.reasons.Reason.{Reason}
use Rattle.meaning.specs.Reasons.{number_of}
use Rattle.meaning.specs.Numbers.{store_full}
use Rattle.meaning.specs.Model.{Model, Chunk}
use Rattle.meaning.specs.Fresh.{Move, stays, moves, move_of, Moving, moving, if_room_fresh, move_with, move_on, fresh_from}
use Rattle.layout.specs.declared.Plan.{Plan}
use Rattle.layout.specs.StateWords.{state_in}
use Rattle.layout.specs.Plans.{model_on, Planned}
use Rattle.step_learn.specs.Knows.{Knows}
use Rattle.step_learn.proofs.AddsLaws.{room-same}
use Rattle.step_made.specs.declared.Made.{Made}
use Rattle.step_made.specs.Made.{event_of, ms_of, Added}
use Rattle.fresh_step.specs.Moves.{MoveMet, placed_move}
use Rattle.running.specs.Runs.{Stays, Moves}

-- ---- the step with what the store knows is the step that has its places

module _ (p : Plan) (tape : List ℕ) (m : Model) (store : Option (List Chunk)) (s : State) (planned : Planned p tape) (knows : Knows p tape m store) where
  placed-is : (move : Move) → placed_move p tape s move ≡ if_room_fresh m store s move
  placed-is (stays number) = refl
  placed-is (moves e s') = ap (λ (b : Bool). if b then stays store_full else (moves e s')) (room-same p tape m s e planned store knows)

  move-is : placed_move p tape s (move_of (model_on p tape) s) ≡ move_with m store s
  move-is = placed-is (move_of (model_on p tape) s) ∙ ap (λ (x : Model). if_room_fresh m store s (move_of x s)) knows.means

-- ---- what a step comes to is what the run goes on from

module _ (p : Plan) (tape : List ℕ) (planned : Planned p tape) (w : List ℕ) (clock : ℕ) where
  abbrev s : State
  s = state_in w clock

  goes : (m : Model) (store : Option (List Chunk)) (n : ℕ) → Knows p tape m store → (move : Move) → move ≡ placed_move p tape s (move_of (model_on p tape) s)
      → fresh_from m (suc n) (moving s store) ≡ move_on m (moving s store) (λ g'. fresh_from m n g') move
  unfolding fresh_from
  goes m store n knows move q = ap (move_on m (moving s store) (λ g'. fresh_from m n g')) (sym (q ∙ move-is p tape m store s planned knows))

  module _ (w' : List ℕ) where
    -- no step is made
    pub stops : (r : Result Made Reason) → MoveMet (placed_move p tape s (move_of (model_on p tape) s)) r w w' clock → IfErr r (λ reason. Stays fresh_from reason p tape moving s)
    stops (Ok made) met = tt
    stops (Err reason) met = record { rest = λ m store n knows. goes m store n knows (stays (number_of reason)) met.is_move }

    -- and all is as it was
    pub kept : (r : Result Made Reason) → MoveMet (placed_move p tape s (move_of (model_on p tape) s)) r w w' clock → OnErr r ((w' ≡ w) × (◌≡◌ {A = State → Option (List Chunk) → Moving} moving moving))
    kept (Ok made) met = tt
    kept (Err reason) met = (met.kept reason refl, refl)

    -- a step is made
    pub goes-on : (r : Result Made Reason) → MoveMet (placed_move p tape s (move_of (model_on p tape) s)) r w w' clock → (news : List ℕ) → IfOk r (λ made. Added made p tape w news)
        → IfOk r (λ made. Moves fresh_from made p tape moving moving w w' news clock)
    goes-on (Ok made) met news added = record {
      in_time = met.in_time;
      added = added;
      rest = λ m store n knows. goes m store n knows (moves (event_of made.event) (state_in w' (clock + ms_of made.event))) met.is_move;
    }
    goes-on (Err reason) met news added = tt
