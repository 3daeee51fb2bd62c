-- What an engine's step means for a run, and what is promised of a run, whichever engine makes it.
use Rattle.std.specs.Prelude.{ℕ, suc, ◌+◌, ◌≤◌, ◌≡◌, List, length, Result, Ok, Err}
use Rattle.std.proofs.Math.Option.{Option}
use Rattle.meaning.specs.declared.State.{State}
use Rattle.meaning.specs.declared.reasons.Reason.{Reason}
use Rattle.meaning.specs.Reasons.{number_of}
use Rattle.meaning.specs.Numbers.{all_done}
use Rattle.meaning.specs.Model.{Model, Chunk}
use Rattle.meaning.specs.Step.{largest}
use Rattle.meaning.specs.Learning.{store_after}
use Rattle.meaning.specs.Run.{Run, ends, before}
use Rattle.layout.specs.declared.Plan.{Plan}
use Rattle.layout.specs.StateWords.{state_in}
use Rattle.step_note.specs.Events.{Tells}
use Rattle.step_learn.specs.Knows.{Knows}
use Rattle.step_made.specs.declared.Made.{Made}
use Rattle.step_made.specs.Made.{event_of, ms_of, Added}
use Rattle.running.specs.declared.Went.{Went}

-- the number that a run ended by
abbrev pub ended_by : Result (Unit {0}) Reason → ℕ
ended_by (Ok done) = all_done
ended_by (Err reason) = number_of reason

module _ {Left : Type 0} (run : Model → ℕ → Left → Run Left) where
  -- no step is made from a state, for this reason: the run ends with it
  pub record Stays (reason : Reason) (p : Plan) (tape : List ℕ) (left : State → Option (List Chunk) → Left) (s : State) : Type 0 where
    pub rest : (m : Model) (store : Option (List Chunk)) (n : ℕ) → Knows p tape m store → run m (suc n) (left s store) ≡ ends (number_of reason) (left s store)

  -- a step is made: the run goes on from what it leaves, its clock fits, and what it adds has its places
  pub record Moves (made : Made) (p : Plan) (tape : List ℕ) (left left' : State → Option (List Chunk) → Left) (w w' news : List ℕ) (clock : ℕ) : Type 0 where
    pub in_time : clock + ms_of made.event ≤ largest
    pub added : Added made p tape w news
    pub rest : (m : Model) (store : Option (List Chunk)) (n : ℕ) → Knows p tape m store →
        let later = clock + ms_of made.event in
        let event = event_of made.event in
        run m (suc n) (left (state_in w clock) store) ≡ before (record { clock = later; event = event }) (run m n (left' (state_in w' later) (store_after m (state_in w clock) event store)))

  -- a run of a model with a store, if one is lent, from a state in words: its number, what it left and how many steps it made, its events;
  -- and plan and tape know at the end what the store does
  pub record RunMet (left left' : State → Option (List Chunk) → Left) (r : Went) (m : Model) (store : Option (List Chunk)) (w w' : List ℕ) (clock steps : ℕ) (lent lent' tape' : List ℕ) : Type 0 where
    pub store' : Option (List Chunk)
    pub tells : Tells {Answer = ℕ × Left × ℕ} (λ (r : Run Left). (r.number, r.left, length r.events)) (ended_by r.ended, left' (state_in w' r.clock) store', r.made)
        (run m steps (left (state_in w clock) store)) lent lent'
    pub knows : Knows r.plan tape' m store'
