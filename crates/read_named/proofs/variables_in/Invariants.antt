-- After i rows the mask holds the variables of the first i tests.
use Rattle.meaning.specs.Image.{stands_in}
use Rattle.layout.specs.Rows.{tests_in}
use Rattle.read_named.specs.Masks.{Holds}
use Rattle.read_named.proofs.variables_in.Given as goal

abbrev pub invariant-loop-i : goal.invariant-loop-i
invariant-loop-i l = Holds (stands_in (tests_in l.words l.o l.i)) l.seen
