use Rattle.step_learn.proofs.ClearLaws.{Masked}
use Rattle.step_learn.proofs.clear_mask.Given as goal

abbrev pub invariant-loop-i : goal.invariant-loop-i
invariant-loop-i l = Masked l.words l.o l.m l.i l.mask
