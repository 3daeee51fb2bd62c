-- A step with nothing kept is the step of both engines, less its mark.
use Rattle.std.specs.Prelude.{if◌then◌else◌}
use Prim.Native.Nat.{ℕ, zero, suc, ◌≤◌, ◌<◌}
use mathlib.Core.Path.{◌≡◌, refl, ap, ◌∙◌}
use mathlib.Core.Bool.{Bool, true, false}
use mathlib.Core.List.{List, []}
use lib.Dec.{leb}
use Rattle.std.specs.Prelude.{Option, None, Some, Result, Ok, Err, IfOk}
use Rattle.meaning.specs.declared.State.{State}
use Rattle.meaning.specs.declared.reasons.Reason.{Reason}
use Rattle.meaning.specs.Numbers as numbers
use Rattle.meaning.specs.Model.{Rule}
use Rattle.meaning.specs.Choice.{utilities}
use Rattle.meaning.specs.Fire.{fire}
use Rattle.meaning.specs.Wait.{soonest, wait}
use Rattle.meaning.specs.Mark.{mark_of}
use Rattle.meaning.specs.Step as meaning
use Rattle.meaning.specs.Fresh.{Move, stays, moves, moves_to, wait_fresh, choose_fresh, move, move_of}
use Rattle.layout.specs.declared.Plan.{Plan}
use Rattle.layout.specs.Rows.{rule_in}
use Rattle.layout.specs.StateWords.{buffers_in, state_in}
use Rattle.layout.specs.Plans.{facts_on, heads_on, rows_on, rules_on, model_on}
use Rattle.match_best.specs.Chosen.{Below}
use Rattle.step_learn.specs.Joins.{no_place}
use Rattle.fresh_best.specs.Matched.{matched_of, Entered}
use Rattle.step_made.specs.declared.Made.{Made}
use Rattle.step_made.specs.Made.{firing, placed, step_in, StepMet, Joins, Added, Waits}
use Rattle.step_made.proofs.MadeLaws.{wait-placed, joins-added, joins-none}
use Rattle.fresh_step.specs.Moves.{MoveMet, move_in, placed_move}

-- ---- a step without its mark

abbrev less : meaning.Step → Move
less (meaning.step_stopped number) = stays number
less (meaning.step_made e s' mark) = moves e s'

less-in : (r : Result Made Reason) (w : List ℕ) (clock : ℕ) → move_in r w clock ≡ less (step_in r w clock)
less-in (Ok made) w clock = refl
less-in (Err reason) w clock = refl

less-past : (e : meaning.Event) (s' : State) (mark : ℕ) → less (meaning.unless_past e s' mark) ≡ moves_to e s'
less-past e s' mark = elim (leb s'.clock meaning.largest) as (λ (b : Bool). less (if b then meaning.step_made e s' mark else meaning.step_stopped numbers.clock_full) ≡ (if b then moves e s' else stays numbers.clock_full)) [ true ↦ refl | false ↦ refl ]

less-wait : (s : State) (ms : ℕ) → less (meaning.wait_step s ms) ≡ wait_fresh s ms
less-wait s zero = refl
less-wait s (suc n) = less-past (meaning.event_waited (suc n)) (wait (suc n) s) (mark_of [] s (wait (suc n) s))

module _ (p : Plan) (tape : List ℕ) (s : State) where
  less-placed : (step : meaning.Step) → less (placed p tape s step) ≡ placed_move p tape s (less step)
  less-placed (meaning.step_stopped number) = refl
  less-placed (meaning.step_made e s' mark) = elim (no_place p tape s e) as (λ (b : Bool). less (if b then meaning.step_stopped numbers.store_full else (meaning.step_made e s' mark)) ≡ (if b then stays numbers.store_full else (moves e s'))) [ true ↦ refl | false ↦ refl ]

-- what is met with the mark is met without it
met : {step : meaning.Step} {m : Move} {r : Result Made Reason} {w w' : List ℕ} {clock : ℕ} → less step ≡ m → StepMet step r w w' clock → MoveMet m r w w' clock
met {r = r} {w' = w'} {clock = clock} e s = record { is_move = less-in r w' clock ∙ ap less s.is_step ∙ e; kept = s.kept; in_time = s.clock_fits }

-- ---- one of the two, by the choice

-- the number of a rule that is chosen
pub rule-below : {r : Option ℕ} {k n : ℕ} → r ≡ Some k → Below r n → k < n
rule-below e h = rw e at h

module _ (p : Plan) (tape w : List ℕ) (clock : ℕ) where
  abbrev s : State
  s = state_in w clock

  abbrev rule : ℕ → Rule
  rule k = rule_in (heads_on p tape) (rows_on p tape) k

  module _ {r : Option ℕ} {a : Result Made Reason} {w' : List ℕ} (e : choose_fresh (rules_on p tape) (utilities (rules_on p tape)) s ≡ matched_of (heads_on p tape) (rows_on p tape) s r) where
    pub step-fires : (k : ℕ) → r ≡ Some k → (nine : List ℕ) → Entered (heads_on p tape) (rows_on p tape) w r nine
        → StepMet (placed p tape s (firing p.failure (facts_on p tape) s k (rule k) nine)) a w w' clock
        → MoveMet (placed_move p tape s (move_of (model_on p tape) s)) a w w' clock
    unfolding move model_on
    step-fires k g nine entered m =
        let entry = (rw g at entered) clock in
        let s' : State = fire p.failure (facts_on p tape) (rule k) nine s in
        let move = less-placed p tape s _ ∙ ap (placed_move p tape s) (less-past (meaning.event_fired k) s' (mark_of (rule k).actions s s')) in
        rw (e, g, ← entry) (met move m)

    pub step_waits : p.facts ≤ p.places → r ≡ None → StepMet (meaning.wait_step s (soonest 0 (buffers_in w))) a w w' clock
        → MoveMet (placed_move p tape s (move_of (model_on p tape) s)) a w w' clock
    unfolding move model_on
    step_waits fit g m =
        let ms = soonest 0 (buffers_in w) in
        let waits : StepMet (placed p tape s (meaning.wait_step s ms)) a w w' clock = rw (wait-placed p tape s fit ms) m in
        rw (e, g) (met (less-placed p tape s (meaning.wait_step s ms) ∙ ap (placed_move p tape s) (less-wait s ms)) waits)

-- ---- what a step adds

pub added-by : (r : Result Made Reason) (p : Plan) (tape w news : List ℕ) → p.facts ≤ p.places → Joins r p tape w news → IfOk r (λ made. Added made p tape w news)
added-by (Ok made) p tape w news fit joins = joins-added made p tape w news fit joins
added-by (Err reason) p tape w news fit joins = tt

pub added-none : (r : Result Made Reason) (p : Plan) (tape w news : List ℕ) → p.facts ≤ p.places → IfOk r Waits → IfOk r (λ made. Added made p tape w news)
added-none r p tape w news fit waits = added-by r p tape w news fit (joins-none r p tape w news waits)
