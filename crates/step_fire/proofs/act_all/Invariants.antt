use Rattle.layout.specs.Rows.{actions_in}
use Rattle.layout.specs.Plans.{facts_on, rows_on}
use Rattle.step_fire.proofs.FireLaws.{Acting}
use Rattle.step_fire.proofs.act_all.Given as goal

abbrev pub invariant-loop-rest : goal.invariant-loop-rest
invariant-loop-rest l = Acting l.image.plan.failure (facts_on l.image.plan l.image.tape) l.nine (actions_in (rows_on l.image.plan l.image.tape) l.o l.m) l.initial.state l.state l.rest

abbrev pub decreases-loop-rest : goal.decreases-loop-rest
decreases-loop-rest l = l.rest
