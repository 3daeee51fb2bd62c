-- After some slots the mask holds the variables of those among them that are named.
use Rattle.std.proofs.Common.{◌||◌}
use Rattle.meaning.specs.Base.{bit}
use Rattle.read_named.specs.Masks.{Holds}
use Rattle.read_named.proofs.SeenLaws.{stands_below}
use Rattle.read_named.proofs.with_test.Given as goal

abbrev pub invariant-loop-slot : goal.invariant-loop-slot
invariant-loop-slot l = Holds (λ v. bit l.mask v || stands_below l.words l.q l.slot v) l.seen
