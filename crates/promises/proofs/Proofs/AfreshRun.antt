-- A step without a table is the kept step with the fresh one, with a store or none; and so is a run.
use Rattle.std.specs.Prelude.{if◌then◌else◌, ◌≡◌, ◌↔◌, true, false, List, ◌∷◌, ℤ}
use Rattle.std.proofs.Math.Path.{refl}
use Rattle.std.proofs.Common.{ap, arith}
use Rattle.std.proofs.Math.Option.{Option, none, some}
use Prim.Native.Nat.{ℕ, zero, suc}
use Rattle.meaning.specs.declared.State.{State}
use Rattle.meaning.specs.Numbers.{store_full}
use Rattle.meaning.specs.Model.{Model, Chunk, Fact}
use Rattle.meaning.specs.Match.{fresh_table}
use Rattle.meaning.specs.Choice.{Candidate, choose, utilities}
use Rattle.meaning.specs.Fire.{fire}
use Rattle.meaning.specs.Wait.{soonest}
use Rattle.meaning.specs.Mark.{mark_of}
use Rattle.meaning.specs.Step.{Event, event_fired, Step, step_stopped, step_made, step_by, step}
use Rattle.meaning.specs.Run.{Going, Timed, Run, ends, before, run_from}
use Rattle.meaning.specs.Learning.{knowing, store_after, overfull, if_room, step_with}
use Rattle.meaning.specs.Calls.{ran_by}
use Rattle.meaning.specs.Fresh.{Move, stays, moves, move_by, move, Moving, moving, if_room_fresh, move_with, fresh_from}
use Rattle.meaning.specs.Fresh.{fresh_ran_by}
use Rattle.promises.specs.Words.{AsKept, answer_of}
use Rattle.promises.proofs.Proofs.Steps.{fire-fresh}
use Rattle.promises.proofs.Proofs.Selection.{chosen-own}
use Rattle.promises.proofs.Proofs.Storing.{onward}
use Rattle.promises.proofs.Proofs.Outcomes.{freshly, made-run}
pub use Rattle.promises.proofs.Proofs.AfreshChoice.{matched-fresh, choice-fresh, Same, both-stop, both-move, same-past, same-wait}

module _ (m : Model) (memory : List Fact) (us : List ℤ) (s : State) where
  abbrev pub fresh : List ℕ
  fresh = fresh_table m.rules s

  pub same_by : (o : Option Candidate) → choose m.rules us fresh ≡ o → Same (step_by m.failure memory s o) (move_by m.failure memory s o)
  same_by none o = same-wait s (soonest 0 s.buffers)
  same_by (some c) o =
      let s' : State = fire m.failure memory c.rule c.entry s in
      rw (fire-fresh m.failure memory s c (chosen-own m.rules us s c o)) (same-past (event_fired c.number) s' (mark_of c.rule.actions s s'))

  pub same_step : Same (step m memory us s fresh) (move m memory us s)
  unfolding step move
  same_step = rw (← choice-fresh m.rules us s) (same_by (choose m.rules us fresh) refl)

-- what that says of the two
pub same-moves : {st : Step} {mv : Move} → Same st mv → (e : Event) (s' : State) → (mv ≡ moves e s') ↔ ((mark : ℕ) × (st ≡ step_made e s' mark))
same-moves both-stop e s' = (λ h. let z : ◌≡◌ {A = ℕ} 0 1 = cc in absurd (omega arith), λ h. let q = h.1 in let z : ◌≡◌ {A = ℕ} 0 1 = cc in absurd (omega arith))
same-moves (both-move {mark = mark}) e s' = (λ h. (mark, cc), λ h. let q = h.1 in cc)

pub same-stays : {st : Step} {mv : Move} → Same st mv → (n : ℕ) → (mv ≡ stays n) ↔ (st ≡ step_stopped n)
same-stays both-stop n = (λ h. cc, λ h. cc)
same-stays both-move n = (λ h. let z : ◌≡◌ {A = ℕ} 0 1 = cc in absurd (omega arith), λ h. let z : ◌≡◌ {A = ℕ} 0 1 = cc in absurd (omega arith))

module _ (m : Model) (memory : List Fact) (us : List ℤ) (s : State) where
  pub moves-exactly : (e : Event) (s' : State) → (move m memory us s ≡ moves e s') ↔ ((mark : ℕ) × (step m memory us s (fresh_table m.rules s) ≡ step_made e s' mark))
  moves-exactly e s' = same-moves (same_step m memory us s) e s'

  pub stays-exactly : (n : ℕ) → (move m memory us s ≡ stays n) ↔ (step m memory us s (fresh_table m.rules s) ≡ step_stopped n)
  stays-exactly n = same-stays (same_step m memory us s) n

-- ---- the run, with a store or none

-- a step with what a store knows, where its facts have room
pub same-room : (m : Model) (store : Option (List Chunk)) (s : State) {st : Step} {mv : Move} → Same st mv → Same (if_room m store s st) (if_room_fresh m store s mv)
same-room m store s both-stop = both-stop
same-room m store s (both-move {e} {s'} {mark}) =
    elim (overfull (store_after m s e store)) as (λ t. Same (if t then step_stopped store_full else (step_made e s' mark)) (if t then stays store_full else (moves e s'))) [
      | true ↦ both-stop
      | false ↦ both-move
    ]

pub same-with : (m : Model) (store : Option (List Chunk)) (s : State) → Same (step_with m store s (fresh_table m.rules s)) (move_with m store s)
same-with m none s = same-room m none s (same_step m m.facts (utilities m.rules) s)
same-with m (some cs) s = let k : Model = knowing m (some cs) in same-room m (some cs) s (same_step k k.facts (utilities k.rules) s)

-- after a first step that is not made with the fresh table, nor without one,
-- or that is made,
-- each run is this
module _ (m : Model) (n : ℕ) (g : Moving) where
  pub stopped-kept : (number : ℕ) → step_with m g.store g.state (fresh_table m.rules g.state) ≡ step_stopped number → run_from m (suc n) (freshly m g) ≡ ends number (freshly m g)
  unfolding run_from
  stopped-kept number q = rw q refl

  pub stays-ends : (number : ℕ) → move_with m g.store g.state ≡ stays number → fresh_from m (suc n) g ≡ ends number g
  unfolding fresh_from
  stays-ends number q = rw q refl

  pub moves-on : (e : Event) (s' : State) → move_with m g.store g.state ≡ moves e s'
      → fresh_from m (suc n) g ≡ before (record { clock = s'.clock; event = e }) (fresh_from m n (onward m g e s'))
  unfolding fresh_from
  moves-on e s' q = rw q refl

-- nothing told, and the same left
pub at_once : {n : ℕ} {g : Going} → AsKept (ends n g) (ends n (moving g.state g.store))
at_once = record { same_number = refl; same_state = refl; same_store = refl; same_events = refl }

-- one step more before both
pub then-as-kept : (e : Timed) {kept : Run Going} {fresh : Run Moving} → AsKept kept fresh → AsKept (before e kept) (before e fresh)
then-as-kept e a = record { same_number = a.same_number; same_state = a.same_state; same_store = a.same_store; same_events = ap (λ (es : List Timed). e ∷ es) a.same_events }

pub run-as-kept : (m : Model) (n : ℕ) (g : Moving) → AsKept (run_from m n (freshly m g)) (fresh_from m n g)
unfolding run_from fresh_from
run-as-kept m zero g = at_once
run-as-kept m (suc n) g = by (λ g'. run-as-kept m n g') (same-with m g.store g.state) refl refl
  where
    by : ((g' : Moving) → AsKept (run_from m n (freshly m g')) (fresh_from m n g')) → {st : Step} {mv : Move} → Same st mv
        → step_with m g.store g.state (fresh_table m.rules g.state) ≡ st → move_with m g.store g.state ≡ mv → AsKept (run_from m (suc n) (freshly m g)) (fresh_from m (suc n) g)
    by ih (both-stop {n = k}) p q = rw (stopped-kept m n g k p, stays-ends m n g k q) at_once
    by ih (both-move {e} {s'} {mark}) p q = rw (made-run m n g e s' mark p, moves-on m n g e s' q) (then-as-kept (record { clock = s'.clock; event = e }) (ih (onward m g e s')))

-- ---- the call, with words lent or none

-- runs that are alike are answered alike
pub alike-answers : {kept : Run Going} {fresh : Run Moving} → AsKept kept fresh → (at : ℕ) → fresh_ran_by at fresh ≡ answer_of (ran_by at kept)
alike-answers a at = rw (a.same_number, a.same_state, a.same_events) refl
