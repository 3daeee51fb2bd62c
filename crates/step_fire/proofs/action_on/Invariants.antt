use mathlib.Core.Path.{◌≡◌}
use Prim.Native.Nat.{◌<◌}
use Rattle.meaning.specs.Fire.{deed_on}
use Rattle.layout.specs.Rows.{actions_in}
use Rattle.step_fire.proofs.ActLaws.{deed_from}
use Rattle.step_fire.proofs.action_on.Given as goal

abbrev pub invariant-loop-i : goal.invariant-loop-i
invariant-loop-i l = (l.i < l.m) × (deed_from l.words l.o l.m l.k l.i ≡ deed_on (actions_in l.words l.o l.m) l.k)
