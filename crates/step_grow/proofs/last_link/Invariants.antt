use Prim.Native.Nat.{◌-◌}
use mathlib.Core.Path.{◌≡◌}
use lib.ListN.{get_or, drop}
use Rattle.step_grow.specs.Grown.{Link}
use Rattle.step_grow.proofs.last_link.Given as goal

abbrev pub invariant-loop-next : goal.invariant-loop-next
invariant-loop-next l = Link (drop 152 l.tape) l.n l.h l.at × (l.next ≡ get_or (drop l.chains l.tape) l.at 0)

abbrev pub decreases-loop-next : goal.decreases-loop-next
decreases-loop-next l = l.n - l.next
