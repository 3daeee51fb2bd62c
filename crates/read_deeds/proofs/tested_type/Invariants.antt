use Rattle.std.proofs.Common.{◌≡◌, ◌+◌, ◌*◌}
use Rattle.layout.specs.Rows.{test_in, tests_in}
use Rattle.read_deeds.specs.Deeds.{tested_of}
use Rattle.read_deeds.proofs.TestedLaws.{tested_from}
use Rattle.read_deeds.proofs.tested_type.Given as goal

abbrev pub invariant-loop-i : goal.invariant-loop-i
invariant-loop-i l = tested_from (λ k. test_in l.words (l.o + 11 * k)) l.n l.b l.i ≡ tested_of (tests_in l.words l.o l.n) l.b
