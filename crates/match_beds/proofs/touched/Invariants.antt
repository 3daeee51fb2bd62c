use Rattle.match_sets.proofs.BitWalk.{Walk}
use Rattle.match_beds.specs.Moves.{Touches}
use Prim.Native.Nat.{◌%◌}
use Rattle.match_beds.proofs.touched.Given as goal

abbrev pub invariant-loop-rest : goal.invariant-loop-rest
invariant-loop-rest l = Walk (l.mark % 256) 8 (λ b. Touches l.sets l.w l.mark b l.all) l.rest

abbrev pub decreases-loop-rest : goal.decreases-loop-rest
decreases-loop-rest l = l.rest
