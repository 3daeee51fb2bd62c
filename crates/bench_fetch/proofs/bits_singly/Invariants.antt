use mathlib.Core.Path.{◌≡◌}
use Rattle.meaning.specs.Bits.{field_at}
use Rattle.bench_fetch.proofs.bits_singly.Given as goal

abbrev pub invariant-loop-i : goal.invariant-loop-i
invariant-loop-i l = l.value ≡ field_at l.image l.at l.i
