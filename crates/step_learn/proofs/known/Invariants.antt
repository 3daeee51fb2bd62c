use Prim.Native.Nat.{◌-◌, ◌<◌}
use mathlib.Core.Path.{◌≡◌}
use Rattle.step_retrieve.specs.Chains.{chain_of}
use Rattle.step_learn.proofs.JoinLaws.{among_from}
use Rattle.step_learn.proofs.known.Given as goal

abbrev pub invariant-loop-k : goal.invariant-loop-k
invariant-loop-k l = (l.k < l.n → chain_of l.facts l.k ≡ l.h) × (among_from l.state l.b l.facts l.n l.k ≡ among_from l.state l.b l.facts l.n 0)

abbrev pub decreases-loop-k : goal.decreases-loop-k
decreases-loop-k l = l.n - l.k
