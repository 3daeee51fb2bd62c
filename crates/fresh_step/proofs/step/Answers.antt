-- `fresh_step::step` meets its contract: the best of the matching rules fires with its entry, or time passes.
use Prim.Native.Nat.{ℕ}
use mathlib.Core.Path.{◌≡◌}
use mathlib.Core.List.{List}
use Rattle.meaning.specs.Choice.{utilities}
use Rattle.meaning.specs.Fresh.{choose_fresh}
use Rattle.layout.specs.StateWords.{state_in}
use Rattle.layout.specs.Plans.{heads_on, rows_on, rules_on}
use Rattle.fresh_best.specs.Matched.{matched_of, Entered}
use Rattle.fresh_step.proofs.MoveLaws.{step-fires, step_waits, added-by, added-none}
use Rattle.fresh_step.proofs.step.Goals as goal
use Rattle.fresh_step.proofs.step.Goals.{After-best}

abbrev entry : (c : After-best) → List ℕ
entry c = c.best.new.nine

chosen : (c : After-best) → let a = c.args in let rules = rules_on a.image.now.plan a.image.now.tape in let s = state_in a.state.now a.clock in choose_fresh rules (utilities rules) s ≡ matched_of (heads_on a.image.now.plan a.image.now.tape) (rows_on a.image.now.plan a.image.now.tape) s c.best.result
chosen c = rw (c.heads.ensures, c.rows.ensures, c.plan-n.ensures.value) at (c.best.ensures.by_index c.args.clock)

entered : (c : After-best) → let a = c.args in Entered (heads_on a.image.now.plan a.image.now.tape) (rows_on a.image.now.plan a.image.now.tape) a.state.now c.best.result (entry c)
entered c = rw (c.heads.ensures, c.rows.ensures) at c.best.ensures.entry

-- the rule that is chosen fires
-- with the nine words of its entry
pub returns-in-Some-clause-move_met : goal.returns-in-Some-clause-move_met
returns-in-Some-clause-move_met c =
    let a = c.args in
    let after = (goal.at.returns-in-Some-clause-move_met c).After-best in
    step-fires a.image.now.plan a.image.now.tape a.state.now a.clock (chosen after) _ c.in-Some.is (entry after) (entered after) c.fire.ensures.step_met

pub returns-in-Some-clause-adds : goal.returns-in-Some-clause-adds
returns-in-Some-clause-adds c =
    let a = c.args in
    added-by c.fire.result a.image.now.plan a.image.now.tape a.state.now _ (rw c.plan-n.ensures.value at c.plan-n.ensures.planned).facts_placed c.fire.ensures.joins

pub returns-in-None-clause-move_met : goal.returns-in-None-clause-move_met
returns-in-None-clause-move_met c =
    let a = c.args in
    step_waits a.image.now.plan a.image.now.tape a.state.now a.clock (chosen (goal.at.returns-in-None-clause-move_met c).After-best) (rw c.plan-n.ensures.value at c.plan-n.ensures.planned).facts_placed c.in-None.is c.wait.ensures.step_met

pub returns-in-None-clause-adds : goal.returns-in-None-clause-adds
returns-in-None-clause-adds c =
    let a = c.args in
    added-none c.wait.result a.image.now.plan a.image.now.tape a.state.now a.news.now (rw c.plan-n.ensures.value at c.plan-n.ensures.planned).facts_placed c.wait.ensures.waits
