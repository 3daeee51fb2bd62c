use Rattle.step_wait.proofs.StepLaws.{Going}
use Rattle.step_wait.proofs.wait.Given as goal

abbrev pub invariant-loop-k : goal.invariant-loop-k
invariant-loop-k l = Going l.ms l.initial.state l.state l.k l.mark
