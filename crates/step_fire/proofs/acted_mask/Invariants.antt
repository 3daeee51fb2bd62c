use Rattle.step_fire.proofs.ActLaws.{Masked}
use Rattle.step_fire.proofs.acted_mask.Given as goal

abbrev pub invariant-loop-i : goal.invariant-loop-i
invariant-loop-i l = Masked l.words l.o l.m l.i l.mask
