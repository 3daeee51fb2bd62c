-- A step with a table, and the run that goes on from it.
use Rattle.std.specs.Prelude.{if◌then◌else◌}
use Prim.Native.Nat.{ℕ, suc, ◌+◌}
use mathlib.Core.Path.{◌≡◌, refl, sym, ap, ◌∙◌}
use mathlib.Core.Bool.{Bool, true, false}
use mathlib.Core.List.{List}
use mathlib.Core.Option.{Option, none, some}
use native.Mathlib.Omega.{arith}
use Rattle.std.specs.Prelude.{Result, Ok, Err, IfOk, IfErr, OnErr}
use Rattle.meaning.specs.declared.State.{State}
use Rattle.meaning.specs.declared.reasons.Reason.{Reason}
use Rattle.meaning.specs.Reasons.{number_of}
use Rattle.meaning.specs.Numbers.{store_full}
use Rattle.meaning.specs.Model.{Model, Chunk, Rule}
use Rattle.meaning.specs.Step.{Event, Step, step_stopped, step_made, step_of}
use Rattle.meaning.specs.Learning.{knowing, if_room, step_with}
use Rattle.meaning.specs.Refresh.{refresh}
use Rattle.meaning.specs.Run.{Going, going, go_on, run_from}
use Rattle.layout.specs.declared.Plan.{Plan}
use Rattle.layout.specs.StateWords.{state_in}
use Rattle.layout.specs.Plans.{model_on, Planned}
use Rattle.step_learn.specs.Joins.{no_place}
use Rattle.step_learn.specs.Knows.{Knows}
use Rattle.step_learn.proofs.AddsLaws.{room-same}
use Rattle.step_made.specs.declared.Made.{Made}
use Rattle.step_made.specs.Made.{event_of, ms_of, placed, StepMet, Joins}
use Rattle.step_made.proofs.MadeLaws.{joins-added}
use Rattle.running.specs.Runs.{Stays, Moves}

-- ---- the step with what the store knows is the step that has its places

rules-known : (m : Model) (store : Option (List Chunk)) → (knowing m store).rules ≡ m.rules
rules-known m none = refl
rules-known m (some cs) = refl

module _ (p : Plan) (tape : List ℕ) (m : Model) (store : Option (List Chunk)) (s : State) (table : List ℕ) (planned : Planned p tape) (knows : Knows p tape m store) where
  placed-is : (step : Step) → placed p tape s step ≡ if_room m store s step
  placed-is (step_stopped number) = refl
  placed-is (step_made e s' mark) = ap (λ (b : Bool). if b then step_stopped store_full else (step_made e s' mark)) (room-same p tape m s e planned store knows)

  step_is : placed p tape s (step_of (model_on p tape) s table) ≡ step_with m store s table
  step_is = placed-is (step_of (model_on p tape) s table) ∙ ap (λ (x : Model). if_room m store s (step_of x s table)) knows.means

-- a step that is made, where it has its places, is made whether or not they are asked for
pub made-anyhow : (p : Plan) (tape : List ℕ) (s : State) (step made : Step) (e : Event) (s' : State) (mark : ℕ) → made ≡ step_made e s' mark → made ≡ placed p tape s step → made ≡ step
made-anyhow p tape s (step_stopped number) made e s' mark g h = h
made-anyhow p tape s (step_made e₀ s₀ mark₀) made e s' mark g h = g ∙ roomy (no_place p tape s e₀) (sym g ∙ h)
  where
    reason : Step → ℕ
    reason (step_stopped number) = 1
    reason (step_made e s mark) = 0

    roomy : (b : Bool) → step_made e s' mark ≡ (if b then step_stopped store_full else (step_made e₀ s₀ mark₀)) → step_made e s' mark ≡ step_made e₀ s₀ mark₀
    roomy true z = absurd (let q : ◌≡◌ {A = ℕ} 0 1 = ap reason z in omega arith)
    roomy false z = z

-- ---- what a step comes to is what the run goes on from

module _ (p : Plan) (tape : List ℕ) (planned : Planned p tape) (w table : List ℕ) (clock : ℕ) where
  abbrev s : State
  s = state_in w clock

  goes : (m : Model) (store : Option (List Chunk)) (n : ℕ) → Knows p tape m store → (st : Step) → st ≡ placed p tape s (step_of (model_on p tape) s table)
      → run_from m (suc n) (going s table store) ≡ go_on m (going s table store) (λ g'. run_from m n g') st
  unfolding run_from
  goes m store n knows st q = ap (go_on m (going s table store) (λ g'. run_from m n g')) (sym (q ∙ step_is p tape m store s table planned knows))

  module _ (w' table' : List ℕ) where
    -- no step is made
    pub stays : (r : Result Made Reason) → StepMet (placed p tape s (step_of (model_on p tape) s table)) r w w' clock
        → IfErr r (λ reason. Stays run_from reason p tape (λ (s : State) store. going s table store) s)
    stays (Ok made) met = tt
    stays (Err reason) met = record { rest = λ m store n knows. goes m store n knows (step_stopped (number_of reason)) met.is_step }

    -- and all is as it was
    pub kept : (r : Result Made Reason) → StepMet (placed p tape s (step_of (model_on p tape) s table)) r w w' clock → OnErr r (table' ≡ table)
        → OnErr r ((w' ≡ w) × (◌≡◌ {A = State → Option (List Chunk) → Going} (λ s store. going s table' store) (λ s store. going s table store)))
    kept (Ok made) met same = tt
    kept (Err reason) met same = (met.kept reason refl, ap {B = State → Option (List Chunk) → Going} (λ (t : List ℕ) (s : State) (store : Option (List Chunk)). going s t store) same)

    -- a step is made, and the table is renewed by it
    pub moves : (r : Result Made Reason) → StepMet (placed p tape s (step_of (model_on p tape) s table)) r w w' clock
        → (news : List ℕ) → Joins r p tape w news → IfOk r (λ made. (later : ℕ) → table' ≡ refresh (model_on p tape).rules (state_in w' later) made.mark table)
        → IfOk r (λ made. Moves run_from made p tape (λ (s : State) store. going s table store) (λ (s : State) store. going s table' store) w w' news clock)
    moves (Ok made) met news joins renewed = record {
      in_time = met.clock_fits;
      added = joins-added made p tape w news planned.facts_placed joins;
      rest = λ m store n knows.
          let later = clock + ms_of made.event in
          let is = goes m store n knows (step_made (event_of made.event) (state_in w' later) made.mark) met.is_step in
          let rules : (model_on p tape).rules ≡ m.rules = ap (λ (x : Model). x.rules) knows.means ∙ rules-known m store in
          let same : table' ≡ refresh m.rules (state_in w' later) made.mark table = renewed later ∙ ap (λ (rs : List Rule). refresh rs (state_in w' later) made.mark table) rules in
          rw same is;
    }
    moves (Err reason) met news joins renewed = tt
