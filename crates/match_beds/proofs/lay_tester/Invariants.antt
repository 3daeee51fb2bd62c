use Rattle.match_sets.proofs.BitWalk.{Walk}
use Rattle.match_beds.specs.Moves.{Joins}
use Prim.Native.Nat.{◌%◌}
use Rattle.match_beds.proofs.lay_tester.Given as goal

abbrev pub invariant-loop-rest : goal.invariant-loop-rest
invariant-loop-rest l = Walk (l.mask % 256) 8 (λ b. Joins l.k l.mask b l.initial.sets l.sets) l.rest

abbrev pub decreases-loop-rest : goal.decreases-loop-rest
decreases-loop-rest l = l.rest
