-- After i rows the mask holds the variables of the first i tests.
use Rattle.read_named.proofs.SeenLaws.{one_test}
use Rattle.read_named.proofs.variables_in.Goals as goal

pub loop-i-preserved : goal.loop-i-preserved
loop-i-preserved c = one_test c.args.words.now c.args.o c.loop-i.i c.loop-i.seen _ c.loop-i.invariant c.with_test-seen.ensures
