use Rattle.layout.specs.Rows.{facts_in}
use Rattle.step_grow.specs.Grown.{Grown}
use Rattle.step_grow.proofs.grow.Given as goal

abbrev pub invariant-loop-i : goal.invariant-loop-i
invariant-loop-i l = Grown l.initial.grown l.initial.tape l.grown l.tape (facts_in l.news l.i)
