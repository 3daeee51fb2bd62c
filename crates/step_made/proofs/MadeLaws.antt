-- A step by its cases: what each answer of the code needs to be the step that the definitions give, and what it adds.
use Rattle.std.specs.Prelude.{if◌then◌else◌}
use Prim.Native.Nat.{ℕ, zero, suc, ◌+◌, ◌≤◌, ◌<◌}
use mathlib.Core.Path.{◌≡◌, refl, sym, ap, ◌∙◌}
use mathlib.Core.Bool.{Bool, true, false}
use mathlib.Core.List.{List, [], map}
use native.Mathlib.Omega.{arith}
use borrow.Author.Tests.{le-leb, lt-leb, leb-true, leb-false, le-ltb}
use lib.Dec.{leb, ltb}
use lib.ListN.{length}
use Rattle.std.specs.Prelude.{Result, Ok, Err, IfOk}
use Rattle.meaning.specs.declared.State.{State}
use Rattle.meaning.specs.declared.Event.{Event}
use Rattle.meaning.specs.declared.Event.TheVariants.{Fired, Waited}
use Rattle.meaning.specs.declared.reasons.Reason.{Reason}
use Rattle.meaning.specs.declared.reasons.Reason.TheVariants.{ClockFull, Halted, StoreFull}
use Rattle.meaning.specs.Reasons.{number_of}
use Rattle.meaning.specs.Model.{Rule, Chunk, Fact}
use Rattle.meaning.specs.Learning.{learned}
use Rattle.meaning.specs.Numbers as numbers
use Rattle.meaning.specs.Fire.{fire}
use Rattle.meaning.specs.Wait.{wait}
use Rattle.meaning.specs.Mark.{mark_of}
use Rattle.meaning.specs.Step as meaning
use Rattle.layout.specs.declared.Plan.{Plan}
use Rattle.layout.specs.Rows.{rows_in, facts_in}
use Rattle.layout.specs.StateWords.{state_in}
use Rattle.step_learn.specs.Joins.{joins_on, adds_on, no_place, Collected}
use Rattle.step_learn.proofs.AddsLaws.{joins-adds}
use Rattle.step_made.specs.declared.Made.{Made}
use Rattle.step_made.specs.Made.{event_of, firing, placed, StepMet, Joined, Joins, Added, Unfired, Waits, clock_after}

-- no step is made, for this reason
pub stopped : {step : meaning.Step} {w : List ℕ} {clock : ℕ} (reason : Reason) → step ≡ meaning.step_stopped (number_of reason) → StepMet step (Err reason) w w clock
stopped reason e = record { is_step = sym e; kept = λ _ _. refl; clock_fits = tt }

-- ---- a wait

wait-some : (ms : ℕ) → (ms ≡ 0 → ⊥) → (s : State) → meaning.wait_step s ms ≡ meaning.unless_past (meaning.event_waited ms) (wait ms s) (mark_of [] s (wait ms s))
wait-some zero some s = absurd (some refl)
wait-some (suc n) some s = refl

-- a clock that is refused would pass its limit; one that is not fits
pub past : (clock ms : ℕ) (reason : Reason) → clock_after clock ms ≡ Err reason → (reason ≡ ClockFull) × (meaning.largest < clock + ms)
past clock ms reason e = by (leb (clock + ms) meaning.largest) refl e
  where
    by : (b : Bool) → leb (clock + ms) meaning.largest ≡ b → (if◌then◌else◌ {A = Result ℕ Reason} b (Ok (clock + ms)) (Err ClockFull)) ≡ Err reason → (reason ≡ ClockFull) × (meaning.largest < clock + ms)
    by true q e = absurd (cc)
    by false q e = (cc, leb-false _ _ q)

pub in-time : (clock ms later : ℕ) → clock_after clock ms ≡ Ok later → (later ≡ clock + ms) × (clock + ms ≤ meaning.largest)
in-time clock ms later e = by (leb (clock + ms) meaning.largest) refl e
  where
    by : (b : Bool) → leb (clock + ms) meaning.largest ≡ b → (if◌then◌else◌ {A = Result ℕ Reason} b (Ok (clock + ms)) (Err ClockFull)) ≡ Ok later → (later ≡ clock + ms) × (clock + ms ≤ meaning.largest)
    by true q e = (cc, leb-true _ _ q)
    by false q e = absurd (cc)

module _ (w : List ℕ) (clock ms : ℕ) {soonest : ℕ} (is : ms ≡ soonest) where
  pub nothing-pending : ms ≡ 0 → StepMet (meaning.wait_step (state_in w clock) soonest) (Err Halted) w w clock
  nothing-pending e = stopped Halted (rw (← is, e))

  module _ (some : ms ≡ 0 → ⊥) where
    pub wait-full : meaning.largest < clock + ms → StepMet (meaning.wait_step (state_in w clock) soonest) (Err ClockFull) w w clock
    unfolding wait
    wait-full h = stopped ClockFull (rw (← is, wait-some ms some (state_in w clock), lt-leb (clock + ms) meaning.largest h))

    pub waited : clock + ms ≤ meaning.largest → (mark : ℕ) (w' : List ℕ) → state_in w' (clock + ms) ≡ wait ms (state_in w clock)
        → mark ≡ mark_of [] (state_in w clock) (state_in w' (clock + ms))
        → StepMet (meaning.wait_step (state_in w clock) soonest) (Ok (record { event = Waited ms; mark = mark; joined = 0 })) w w' clock
    waited h mark w' s m = record { is_step = rw (← is, wait-some ms some (state_in w clock), ← s, m, le-leb (clock + ms) meaning.largest h); kept = λ reason z. (cc); clock_fits = h }

-- a wait adds nothing, so it has its places
module _ (p : Plan) (tape : List ℕ) (s : State) (fit : p.facts ≤ p.places) where
  roomy : (ms : ℕ) → no_place p tape s (meaning.event_waited ms) ≡ false
  roomy ms =
      elim p.learns as (λ b. ltb p.places (p.facts + length (if◌then◌else◌ {A = List Chunk} b [] [])) ≡ false) [
        | true ↦ le-ltb p.places (p.facts + 0) (omega arith)
        | false ↦ le-ltb p.places (p.facts + 0) (omega arith)
      ]

  -- in time, or not
  past-or-not : (ms : ℕ) (s' : State) (mark : ℕ) (b : Bool) →
      let step = if b then meaning.step_made (meaning.event_waited ms) s' mark else meaning.step_stopped numbers.clock_full in placed p tape s step ≡ step
  past-or-not ms s' mark true = ap (λ (x : Bool). if x then meaning.step_stopped numbers.store_full else (meaning.step_made (meaning.event_waited ms) s' mark)) (roomy ms)
  past-or-not ms s' mark false = refl

  pub wait-placed : (ms : ℕ) → placed p tape s (meaning.wait_step s ms) ≡ meaning.wait_step s ms
  wait-placed zero = refl
  wait-placed (suc n) = past-or-not (suc n) (wait (suc n) s) (mark_of [] s (wait (suc n) s)) (leb (wait (suc n) s).clock meaning.largest)

-- ---- a firing, of a plan that has places for what it adds, or not

module _ (p : Plan) (tape : List ℕ) (memory : List Fact) (k : ℕ) (r : Rule) (nine w : List ℕ) (clock : ℕ) where
  abbrev fires : meaning.Step
  fires = placed p tape (state_in w clock) (firing p.failure memory (state_in w clock) k r nine)

  abbrev crowded : Bool
  crowded = no_place p tape (state_in w clock) (meaning.event_fired k)

  pub full : meaning.largest < clock + 50 → StepMet fires (Err ClockFull) w w clock
  unfolding fire
  full h = stopped ClockFull (rw (lt-leb (clock + 50) meaning.largest h))

  pub no_room : clock + 50 ≤ meaning.largest → crowded ≡ true → StepMet fires (Err StoreFull) w w clock
  unfolding fire
  no_room h room = stopped StoreFull (rw (le-leb (clock + 50) meaning.largest h, room))

  pub fired : clock + 50 ≤ meaning.largest → crowded ≡ false → (mark joined : ℕ) (w' : List ℕ)
      → state_in w' (clock + 50) ≡ fire p.failure memory r nine (state_in w clock) → mark ≡ mark_of r.actions (state_in w clock) (state_in w' (clock + 50))
      → StepMet fires (Ok (record { event = Fired k; mark = mark; joined = joined })) w w' clock
  fired h room mark joined w' s m = record { is_step = rw (← s, m, le-leb (clock + 50) meaning.largest h, room); kept = λ reason z. (cc); clock_fits = h }

-- ---- what a step adds

-- a firing adds what was collected
fired-adds : (p : Plan) (tape w news : List ℕ) (made : Made) (rule : ℕ) → made.event ≡ Fired rule → Collected news made.joined (joins_on p tape w rule) → p.facts + made.joined ≤ p.places
    → rule < p.rules → Added made p tape w news
fired-adds p tape w news made rule e collected fit below =
    record {
      few = collected.few;
      fit = fit;
      rows = λ clock. collected.rows ∙ ap (map learned) (joins-adds p tape w clock rule below) ∙ ap (λ (event : Event). map learned (adds_on p tape (state_in w clock) (event_of event))) (sym e);
    }

-- a wait adds nothing
pub waited-adds : (p : Plan) (tape w news : List ℕ) (made : Made) → Waits made → p.facts ≤ p.places → Added made p tape w news
unfolding rows_in
waited-adds p tape w news made waits fit =
    record {
      few = omega (arith, waits.nothing);
      fit = omega (arith, waits.nothing);
      rows = λ clock. ap (facts_in news) waits.nothing ∙ none-added made.event clock waits.unfired;
    }
  where
    none-added : (event : Event) (clock : ℕ) → Unfired event → [] ≡ map learned (adds_on p tape (state_in w clock) (event_of event))
    none-added (Fired rule) clock unfired = absurd unfired
    none-added (Waited ms) clock unfired = elim p.learns as (λ b. ◌≡◌ {A = List Fact} [] (map learned (if◌then◌else◌ {A = List Chunk} b [] []))) [ true ↦ refl | false ↦ refl ]

pub joins-none : (r : Result Made Reason) (p : Plan) (tape w news : List ℕ) → IfOk r Waits → Joins r p tape w news
joins-none (Err reason) p tape w news waits = tt
joins-none (Ok made) p tape w news waits = by made.event made.joined waits.unfired waits.nothing
  where
    by : (event : Event) (joined : ℕ) → Unfired event → joined ≡ 0 → Joined event joined p tape w news
    by (Fired rule) joined unfired none = absurd unfired
    by (Waited ms) joined unfired none = none

-- what joins stands in rows, whichever event it is
pub joins-added : (made : Made) (p : Plan) (tape w news : List ℕ) → p.facts ≤ p.places → Joined made.event made.joined p tape w news → Added made p tape w news
joins-added made p tape w news fit joins = by made.event refl joins
  where
    by : (event : Event) → made.event ≡ event → Joined event made.joined p tape w news → Added made p tape w news
    by (Fired rule) e joined = fired-adds p tape w news made rule e joined.0 joined.1 joined.2
    by (Waited ms) e none = waited-adds p tape w news made (record { unfired = rw e tt; nothing = none }) fit
