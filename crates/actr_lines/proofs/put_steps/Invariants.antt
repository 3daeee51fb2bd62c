use Prim.Native.Nat.{◌*◌}
use mathlib.Core.Path.{◌≡◌}
use lib.ListN.{length}
use Rattle.actr_lines.specs.Text.{text as lines_text}
use Rattle.actr_lines.specs.Written.{Written, lines_in}
use Rattle.actr_lines.proofs.put_steps.Given as goal

abbrev pub invariant-loop-k : goal.invariant-loop-k
invariant-loop-k l =
    (length l.text ≡ length l.initial.text) × Written l.initial.text l.at l.text l.end (27 * l.k) (lines_text (lines_in l.events 0 l.k))
