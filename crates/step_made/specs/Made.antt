-- What a step that was made or refused stands for, and what is promised of one.
use Rattle.std.specs.Prelude.{if◌then◌else◌, ℕ, ◌+◌, ◌≤◌, ◌<◌, ◌≡◌, List, map, leb, Result, Ok, Err}
use Rattle.meaning.specs.declared.Event.{Event}
use Rattle.meaning.specs.declared.Event.TheVariants.{Fired, Waited}
use Rattle.meaning.specs.declared.reasons.Reason.{Reason}
use Rattle.meaning.specs.declared.reasons.Reason.TheVariants.{ClockFull}
use Rattle.meaning.specs.Reasons.{number_of}
use Rattle.meaning.specs.declared.State.{State}
use Rattle.meaning.specs.Numbers.{store_full}
use Rattle.meaning.specs.Model.{Rule, Fact}
use Rattle.meaning.specs.Fire.{fire}
use Rattle.meaning.specs.Mark.{mark_of}
use Rattle.meaning.specs.Step as meaning
use Rattle.meaning.specs.Learning.{learned}
use Rattle.layout.specs.declared.Plan.{Plan}
use Rattle.layout.specs.Rows.{facts_in}
use Rattle.layout.specs.StateWords.{state_in}
use Rattle.step_learn.specs.Joins.{joins_on, adds_on, no_place, Collected}
use Rattle.step_made.specs.declared.Made.{Made}

-- a definition sets out the number and values for each case of the answer
abbrev pub event_of : Event → meaning.Event
event_of (Fired rule) = meaning.event_fired rule
event_of (Waited ms) = meaning.event_waited ms

-- the ms that pass
abbrev pub ms_of : Event → ℕ
ms_of (Fired rule) = 50
ms_of (Waited ms) = ms

-- "clock would pass 4,294,967,295"
abbrev pub clock_after : ℕ → ℕ → Result ℕ Reason
clock_after clock ms = if leb (clock + ms) meaning.largest then Ok (clock + ms) else Err ClockFull

-- the number of a refusal; or the event, the state that the words stand for, and the mark. `clock` is the clock before the step.
abbrev pub step_in : Result Made Reason → List ℕ → ℕ → meaning.Step
step_in (Err reason) w clock = meaning.step_stopped (number_of reason)
step_in (Ok made) w clock = meaning.step_made (event_of made.event) (state_in w (clock + ms_of made.event)) made.mark

-- the clock after a step that was made fits 32 bits
abbrev pub ClockFits : Result Made Reason → ℕ → Type 0
ClockFits (Err reason) clock = Unit {0}
ClockFits (Ok made) clock = clock + ms_of made.event ≤ meaning.largest

-- what a firing comes to, with the nine words of the rule's entry
abbrev pub firing : ℕ → List Fact → State → ℕ → Rule → List ℕ → meaning.Step
firing failure memory s k r nine =
    let s' : State = fire failure memory r nine s in
    meaning.unless_past (meaning.event_fired k) s' (mark_of r.actions s s')

-- the step, unless what it adds has no place
abbrev pub placed : Plan → List ℕ → State → meaning.Step → meaning.Step
placed p tape s (meaning.step_stopped number) = meaning.step_stopped number
placed p tape s (meaning.step_made e s' mark) = if no_place p tape s e then meaning.step_stopped store_full else (meaning.step_made e s' mark)

-- what is promised of an answer, with the state's words before and after: it is the step that the definitions give,
-- a refused step changes nothing, and the new clock fits
pub record StepMet (step : meaning.Step) (r : Result Made Reason) (w w' : List ℕ) (clock : ℕ) : Type 0 where
  pub is_step : step_in r w' clock ≡ step
  pub kept : (reason : Reason) → r ≡ Err reason → w' ≡ w
  pub clock_fits : ClockFits r clock

-- what a firing adds stands in `news`, and has its places; a wait adds nothing
abbrev pub Joined : Event → ℕ → Plan → List ℕ → List ℕ → List ℕ → Type 0
Joined (Fired rule) joined p tape w news = Collected news joined (joins_on p tape w rule) × (p.facts + joined ≤ p.places) × (rule < p.rules)
Joined (Waited ms) joined p tape w news = joined ≡ 0

abbrev pub Joins : Result Made Reason → Plan → List ℕ → List ℕ → List ℕ → Type 0
Joins (Err reason) p tape w news = Unit {0}
Joins (Ok made) p tape w news = Joined made.event made.joined p tape w news

-- an event that is no firing
abbrev pub Unfired : Event → Type 0
Unfired (Fired rule) = ⊥
Unfired (Waited ms) = Unit {0}

-- a step that is no firing, and adds nothing
pub record Waits (made : Made) : Type 0 where
  pub unfired : Unfired made.event
  pub nothing : made.joined ≡ 0

-- what a step that was made adds stands in rows, and they have their places
pub record Added (made : Made) (p : Plan) (tape w news : List ℕ) : Type 0 where
  pub few : made.joined ≤ 8
  pub fit : p.facts + made.joined ≤ p.places
  pub rows : (clock : ℕ) → facts_in news made.joined ≡ map learned (adds_on p tape (state_in w clock) (event_of made.event))
