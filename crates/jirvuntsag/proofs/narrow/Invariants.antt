use mathlib.Core.Path.{◌≡◌}
use lib.ListN.{length, take, drop}
use Rattle.jirvuntsag.proofs.WordLaws.{FitsFrom}
use Rattle.jirvuntsag.proofs.narrow.Given as goal

abbrev pub invariant-loop-i : goal.invariant-loop-i
invariant-loop-i l = (length l.buffers ≡ 88) × FitsFrom l.words l.i × (take l.i l.buffers ≡ take l.i (drop 1 l.words))
