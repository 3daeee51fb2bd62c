use Rattle.match_beds.specs.Beds.{Testing}
use Rattle.match_sets.specs.Sets.{has}
use lib.ListN.{length}
use mathlib.Core.Path.{◌≡◌}
use Prim.Native.Nat.{ℕ, ◌≤◌, ◌<◌}
use Rattle.match_beds.proofs.lay_testers.Given as goal

abbrev pub invariant-loop-k : goal.invariant-loop-k
invariant-loop-k l = (length l.sets ≡ length l.initial.sets) × Testing l.heads l.k l.sets × ((j i : ℕ) → (8 ≤ j → j < 40 → ⊥) → has l.sets j i ≡ has l.initial.sets j i)
