-- A step by its cases: what each answer of the code needs to be the step that the definitions give.
use Prim.Native.Nat.{ℕ, ◌+◌, ◌-◌, ◌*◌, ◌≤◌, ◌<◌}
use mathlib.Core.Path.{◌≡◌, sym, ◌∙◌}
use mathlib.Core.Bool.{Bool, true, false}
use mathlib.Core.List.{List}
use native.Mathlib.Omega.{arith}
use lib.ListN.{take, drop}
use Rattle.std.specs.Prelude.{Option, None, Some, Result, Err}
use Rattle.meaning.specs.declared.reasons.Reason.{Reason}
use Rattle.meaning.specs.declared.reasons.Reason.TheVariants.{NotFresh}
use Rattle.meaning.specs.Base.{same}
use Rattle.meaning.specs.Model.{Fact}
use Rattle.meaning.specs.Match.{entry_of}
use Rattle.meaning.specs.Choice.{Candidate, choose, utilities}
use Rattle.meaning.specs.Wait.{soonest}
use Rattle.meaning.specs.Step as meaning
use Rattle.layout.specs.declared.Plan.{Plan}
use Rattle.layout.specs.StateWords.{buffers_in, state_in}
use Rattle.layout.specs.Plans.{facts_on, heads_on, rows_on, rules_on, model_on}
use Rattle.match_choice.specs.Chosen.{candidate_at, candidate_of}
use Rattle.match_best.specs.Chosen.{Below}
use Rattle.step_made.specs.declared.Made.{Made}
use Rattle.step_made.specs.Made.{firing, placed, StepMet}
use Rattle.step_made.proofs.MadeLaws.{stopped, wait-placed}

-- the part of the table that starts at nine times a rule's number is the rule's entry
pub part-is : (k : ℕ) (table : List ℕ) → take (9 * k + 9 - 9 * k) (drop (9 * k) table) ≡ take 9 (drop (9 * k) table)
part-is k table = let e : 9 * k + 9 - 9 * k ≡ 9 = omega arith in rw e

-- the number of a rule that is chosen
pub rule-below : {r : Option ℕ} {k n : ℕ} → r ≡ Some k → Below r n → k < n
rule-below e h = rw e at h

-- ---- a firing, with the code's word on whether the chosen entry is fresh

module _ (p : Plan) (tape : List ℕ) (memory : List Fact) (c : Candidate) (w : List ℕ) (clock : ℕ) {fresh : Bool} (f : fresh ≡ same c.entry (entry_of c.rule (state_in w clock))) where
  abbrev fires : meaning.Step
  fires = placed p tape (state_in w clock) (meaning.fire_step p.failure memory (state_in w clock) c)

  pub not-fresh : fresh ≡ false → StepMet fires (Err NotFresh) w w clock
  unfolding meaning.fire_step
  not-fresh e = stopped NotFresh (rw (← f, e))

  -- a fresh one fires, with nine words that are the chosen entry's
  pub fresh-fires : fresh ≡ true → {nine : List ℕ} → nine ≡ c.entry → (r : Result Made Reason) (w' : List ℕ)
      → StepMet (placed p tape (state_in w clock) (firing p.failure memory (state_in w clock) c.number c.rule nine)) r w w' clock → StepMet fires r w w' clock
  unfolding meaning.fire_step
  fresh-fires e part r w' met = rw (← f, e, ← part) met

-- ---- one of the two, by the choice

module _ (p : Plan) (tape table : List ℕ) {chosen : Option ℕ} {r : Result Made Reason} {w w' : List ℕ} {clock : ℕ}
    (e : choose (rules_on p tape) (utilities (rules_on p tape)) table ≡ candidate_of (heads_on p tape) (rows_on p tape) table chosen) where
  pub step-fires : (k : ℕ) → chosen ≡ Some k
      → StepMet (placed p tape (state_in w clock) (meaning.fire_step p.failure (facts_on p tape) (state_in w clock) (candidate_at (heads_on p tape) (rows_on p tape) table k))) r w w' clock
      → StepMet (placed p tape (state_in w clock) (meaning.step_of (model_on p tape) (state_in w clock) table)) r w w' clock
  unfolding meaning.step model_on
  step-fires k g s = record { is_step = s.is_step ∙ rw (e, g); kept = s.kept; clock_fits = s.clock_fits }

  pub step_waits : p.facts ≤ p.places → chosen ≡ None → StepMet (meaning.wait_step (state_in w clock) (soonest 0 (buffers_in w))) r w w' clock
      → StepMet (placed p tape (state_in w clock) (meaning.step_of (model_on p tape) (state_in w clock) table)) r w w' clock
  unfolding meaning.step model_on
  step_waits fit g s =
      record {
        is_step = s.is_step ∙ sym (wait-placed p tape (state_in w clock) fit (soonest 0 (buffers_in w))) ∙ rw (e, g);
        kept = s.kept;
        clock_fits = s.clock_fits;
      }
