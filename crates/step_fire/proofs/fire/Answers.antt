-- `step_fire::fire` meets its contract: the actions, done on what a wait of 50 ms makes of the state, are the firing.
use Rattle.layout.specs.Rows.{actions_in}
use Rattle.layout.specs.Plans.{facts_on, rows_on}
use Rattle.step_fire.specs.Acts.{ActedMask}
use Rattle.step_fire.proofs.ActLaws.{acted-low}
use Rattle.step_fire.proofs.FireLaws.{fired, fired-mark}
use Rattle.step_fire.proofs.fire.Goals as goal
use Rattle.step_fire.proofs.fire.Goals.{After-acted_mask-acted}

masked : (c : After-acted_mask-acted) → let a = c.args in ActedMask (actions_in (rows_on a.image.now.plan a.image.now.tape) a.o a.m) c.acted_mask-acted.result
masked c = rw c.rows.ensures at c.acted_mask-acted.ensures

pub returns-clause-by_index : goal.returns-clause-by_index
returns-clause-by_index c =
    let a = c.args in
    let rows = rows_on a.image.now.plan a.image.now.tape in
    let actions = actions_in rows a.o a.m in
    let memory = facts_on a.image.now.plan a.image.now.tape in
    fired a.image.now.plan.failure memory a.nine.now actions a.state.now c.wait-arrived.new.state c.act_all.new.state c.act_all.ensures (c.wait-arrived.ensures.by_index 0)

pub returns-clause-mark : goal.returns-clause-mark
returns-clause-mark c =
    let a = c.args in
    let rows = rows_on a.image.now.plan a.image.now.tape in
    let actions = actions_in rows a.o a.m in
    let memory = facts_on a.image.now.plan a.image.now.tape in
    fired-mark a.image.now.plan.failure memory a.nine.now actions a.state.now c.wait-arrived.new.state c.act_all.new.state c.act_all.ensures
    c.wait-arrived.result c.acted_mask-acted.result c.wait-arrived.ensures.mark (masked (goal.at.returns-clause-mark c).After-acted_mask-acted) (acted-low rows a.o 0 a.m)
