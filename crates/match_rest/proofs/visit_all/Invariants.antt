use Rattle.match_sets.proofs.BitWalk.{Walk}
use Rattle.match_rest.specs.Visits.{VisitedAll}
use Rattle.match_rest.proofs.visit_all.Given as goal

abbrev pub invariant-loop-rest : goal.invariant-loop-rest
invariant-loop-rest l = Walk l.todo 64 (λ i. VisitedAll l.heads l.words l.order l.state l.w l.todo i l.initial.table l.table l.initial.sets l.sets) l.rest

abbrev pub decreases-loop-rest : goal.decreases-loop-rest
decreases-loop-rest l = l.rest
