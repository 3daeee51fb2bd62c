-- "A step": fire, wait or halt.
use Rattle.std.specs.Prelude.{if◌then◌else◌, Bool, List, [], ℕ, zero, suc, leb, ℤ}
use Rattle.std.proofs.Math.Option.{Option, none, some}
use Rattle.meaning.specs.declared.State.{State}
use Rattle.meaning.specs.Base.{same}
use Rattle.meaning.specs.Numbers.{not_fresh, clock_full, halted}
use Rattle.meaning.specs.Model.{Model, Fact}
use Rattle.meaning.specs.Match.{entry_of}
use Rattle.meaning.specs.Choice.{Candidate, choose, utilities}
use Rattle.meaning.specs.Fire.{fire}
use Rattle.meaning.specs.Wait.{soonest, wait}
use Rattle.meaning.specs.Mark.{mark_of}

-- what a step did: the rule that fired, or the ms waited
pub data Event : Type 0 where
  event_fired : ℕ → Event
  event_waited : ℕ → Event

-- a step that was made, with its state and its mark; or why none was
pub data Step : Type 0 where
  step_stopped : ℕ → Step
  step_made : Event → State → ℕ → Step

abbrev pub largest : ℕ
largest = 4294967295

-- "clock would pass 4,294,967,295"
abbrev pub unless_past : Event → State → ℕ → Step
unless_past e s' mark = if leb s'.clock largest then step_made e s' mark else step_stopped clock_full

-- "The chosen entry must equal the fresh entry of that rule." "In a step 7 comes before 8."
unfoldable pub fire_step : ℕ → List Fact → State → Candidate → Step
fire_step failure memory s c =
    let s' : State = fire failure memory c.rule c.entry s in
    if same c.entry (entry_of c.rule s) then unless_past (event_fired c.number) s' (mark_of c.rule.actions s s') else step_stopped not_fresh

-- "No entry matches and nothing is pending. No step is made."; else "the smallest such delay"
abbrev pub wait_step : State → ℕ → Step
wait_step s zero = step_stopped halted
wait_step s (suc n) = unless_past (event_waited (suc n)) (wait (suc n) s) (mark_of [] s (wait (suc n) s))

abbrev pub step_by : ℕ → List Fact → State → Option Candidate → Step
step_by failure memory s none = wait_step s (soonest 0 s.buffers)
step_by failure memory s (some c) = fire_step failure memory s c

-- a step with the facts in memory and the utilities that are handed over
unfoldable pub step : Model → List Fact → List ℤ → State → List ℕ → Step
step m memory us s table = step_by m.failure memory s (choose m.rules us table)

-- the step of the base: memory and utilities are the image's own
abbrev pub step_of : Model → State → List ℕ → Step
step_of m s table = step m m.facts (utilities m.rules) s table
