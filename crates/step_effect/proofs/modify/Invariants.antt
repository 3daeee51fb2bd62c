use Rattle.step_effect.proofs.SlotLaws.{Putting}
use Rattle.step_effect.proofs.modify.Given as goal

abbrev pub invariant-loop-slot : goal.invariant-loop-slot
invariant-loop-slot l = Putting l.words l.q l.nine l.initial.state l.state l.k l.slot
