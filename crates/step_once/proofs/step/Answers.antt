-- `step_once::step` meets its contract: it is the firing of the rule that is chosen, or the wait where none is.
use mathlib.Core.Path.{◌≡◌}
use native.Mathlib.Omega.{arith}
use Rattle.meaning.specs.Choice.{choose, utilities}
use Rattle.layout.specs.Plans.{heads_on, rows_on, rules_on}
use Rattle.laws.specs.PartLaws.{to_end}
use Rattle.match_choice.specs.Chosen.{candidate_of}
use Rattle.match_best.specs.Chosen.{Below}
use lib.Seq.{get_or-drop}
use Prim.Native.Nat.{◌+◌}
use Rattle.match_order.specs.Order.{Words16}
use Rattle.step_once.proofs.StepLaws.{rule-below, step-fires, step_waits}
use Rattle.step_once.proofs.step.Goals as goal
use Rattle.step_once.proofs.step.Goals.{After-pick}

heads-small : (c : After-pick) → Words16 (heads_on c.args.plan c.args.tape.now)
heads-small c i = let a = c.args in rw get_or-drop (omega (arith, c.type_inv.tape (a.plan.heads + i)))

chosen : (c : After-pick) → let a = c.args in let rules = rules_on a.plan a.tape.now in (choose rules (utilities rules) a.table.now ≡ candidate_of (heads_on a.plan a.tape.now) (rows_on a.plan a.tape.now) a.table.now c.pick.result) × Below c.pick.result a.plan.rules
chosen c =
    let a = c.args in
    simp to_end at (c.pick.ensures (heads_on a.plan a.tape.now) (rows_on a.plan a.tape.now) a.table.now) (heads-small c) c.requires.4 c.requires.5.1

pub fire_step-requires : goal.fire_step-requires
fire_step-requires c =
    (c.requires.0, rule-below c.in-Some.is (chosen (goal.at.fire_step-requires c).After-pick).1, c.requires.1, c.requires.2, c.requires.3, c.requires.6, c.requires.7)

pub returns-in-Some-clause-step_met : goal.returns-in-Some-clause-step_met
returns-in-Some-clause-step_met c =
    let a = c.args in
    step-fires a.plan a.tape.now a.table.now (chosen (goal.at.returns-in-Some-clause-step_met c).After-pick).0 _ c.in-Some.is c.fire_step.ensures.step_met

pub returns-in-None-clause-step_met : goal.returns-in-None-clause-step_met
returns-in-None-clause-step_met c =
    let a = c.args in
    step_waits a.plan a.tape.now a.table.now (chosen (goal.at.returns-in-None-clause-step_met c).After-pick).0 c.requires.0.facts_placed c.in-None.is c.wait.ensures.step_met
