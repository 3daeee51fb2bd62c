use Rattle.match_sets.proofs.BitWalk.{Walk}
use Rattle.match_beds.specs.Woken.{Woke, Called}
use lib.ListN.{get_or}
use Prim.Native.Nat.{◌+◌, ◌%◌}
use Rattle.match_beds.proofs.wake.Given as goal

abbrev pub invariant-loop-rest : goal.invariant-loop-rest
invariant-loop-rest l = Walk (get_or l.initial.sets (40 + l.b) 0 % 2048) 11 (λ i. Woke l.n (λ g k. Called l.state l.initial.sets l.b i g) l.initial.sets l.sets) l.rest

abbrev pub decreases-loop-rest : goal.decreases-loop-rest
decreases-loop-rest l = l.rest
