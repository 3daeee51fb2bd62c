-- After i words the mask holds the buffers that the first i name.
use Rattle.read_named.specs.Masks.{Holds, names_buffer}
use Rattle.read_named.proofs.buffers_in.Given as goal

abbrev pub invariant-loop-i : goal.invariant-loop-i
invariant-loop-i l = Holds (names_buffer l.words l.o l.step l.i) l.mask
