use Rattle.step_retrieve.proofs.ChainLaws.{Laid}
use Rattle.step_retrieve.proofs.chain.Given as goal

abbrev pub invariant-loop-k : goal.invariant-loop-k
invariant-loop-k l = Laid l.facts l.n l.k l.index
