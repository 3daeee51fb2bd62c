use Rattle.match_sets.proofs.BitWalk.{Walk}
use Rattle.match_beds.specs.Woken.{Woke, CalledBy}
use Prim.Native.Nat.{◌%◌}
use Rattle.match_beds.proofs.wake_all.Given as goal

abbrev pub invariant-loop-rest : goal.invariant-loop-rest
invariant-loop-rest l = Walk (l.mark % 256) 8 (λ b. Woke l.n (λ g k. CalledBy l.state l.initial.sets l.mark b g) l.initial.sets l.sets) l.rest

abbrev pub decreases-loop-rest : goal.decreases-loop-rest
decreases-loop-rest l = l.rest
