-- `step_once::fire_step` meets its contract: the chosen entry is the rule's part of the table, and is judged before all else.
use borrow.Author.Rules.{rules}
use Rattle.step_once.proofs.StepLaws.{part-is, not-fresh, fresh-fires}
use Rattle.step_once.proofs.fire_step.Goals as goal

pub returns-then-not-chosen_fresh-clause-step_met : goal.returns-then-not-chosen_fresh-clause-step_met
returns-then-not-chosen_fresh-clause-step_met c =
    let a = c.args in
    not-fresh a.plan a.tape.now _ _ a.state.now a.clock (c.chosen_fresh.ensures a.clock) (search rules)

-- the entry is fresh,
-- so what is fired with it is what the definitions fire
pub returns-clause-step_met : goal.returns-clause-step_met
returns-clause-step_met c =
    let a = c.args in
    fresh-fires a.plan a.tape.now _ _ a.state.now a.clock (c.chosen_fresh.ensures a.clock) (search rules) (part-is a.k a.table.now) c.fire.result c.fire.new.state (rw c.new-image.ensures at c.fire.ensures.step_met)
