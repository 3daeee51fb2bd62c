-- `step_fire::act_all` meets its contract: the buffers that are left in the mask are as they were, the others what their deeds make of them.
use mathlib.Core.Path.{◌≡◌}
use mathlib.Core.Bool.{true}
use native.Mathlib.Omega.{arith}
use Rattle.meaning.specs.Mark.{acted_on}
use Rattle.layout.specs.Rows.{actions_in}
use Rattle.layout.specs.Plans.{rows_on}
use Rattle.step_fire.proofs.ActLaws.{acted-low}
use Rattle.step_fire.proofs.FireLaws.{acting-turn, acting-end}
use Rattle.step_fire.proofs.act_all.Goals as goal
use Rattle.step_fire.proofs.act_all.Goals.{After-lowest-k}

on : (c : After-lowest-k) → let a = c.args in acted_on (actions_in (rows_on a.image.now.plan a.image.now.tape) a.o a.m) c.lowest-k.result ≡ true
on c = (c.loop-rest.invariant.left c.lowest-k.result c.lowest-k.ensures.1).0

pub perform-requires : goal.perform-requires
perform-requires c =
    let a = c.args in
    let small = acted-low (rows_on a.image.now.plan a.image.now.tape) a.o 0 a.m c.lowest-k.result (on (goal.at.perform-requires c).After-lowest-k) in
    (omega (arith, c.loop-rest.invariant.size, c.requires.0), small, rw c.rows-rows.ensures at c.action_on-q.ensures.1, c.requires.2, c.requires.3)

pub loop-rest-preserved : goal.loop-rest-preserved
loop-rest-preserved c =
    let a = c.args in
    acting-turn _ _ _ c.loop-rest.invariant (rows_on a.image.now.plan a.image.now.tape) c.action_on-q.result c.lowest-k.ensures.1
    (λ j. c.drop_lowest-rest.ensures.0 c.lowest-k.result j c.lowest-k.ensures.1 c.lowest-k.ensures.2)
    (rw c.rows-rows.ensures at c.action_on-q.ensures.0) c.perform.auto.state c.perform.ensures

pub returns : goal.returns
returns c = acting-end _ _ _ c.loop-rest.invariant c.loop-rest-test.false
