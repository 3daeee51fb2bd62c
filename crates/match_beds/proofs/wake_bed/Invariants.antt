use Rattle.match_beds.specs.Woken.{Woke}
use mathlib.Core.Path.{◌≡◌}
use Prim.Native.Nat.{◌/◌, ◌<◌}
use Rattle.match_beds.proofs.wake_bed.Given as goal

abbrev pub invariant-loop-w : goal.invariant-loop-w
invariant-loop-w l = Woke l.n (λ g k. (g ≡ l.h) × (k / 64 < l.w)) l.initial.sets l.sets
