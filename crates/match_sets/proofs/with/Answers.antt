-- `match_sets::with` meets its contract: the bits of a union with one bit, and of a union less that bit.
use Rattle.match_sets.proofs.BitLaws.{bit-with, bit-without}
use Rattle.match_sets.proofs.with.Goals as goal

pub returns-then-on : goal.returns-then-on
returns-then-on c j = rw c.if-on.true (bit-with c.args.x c.args.i c.requires j)

pub returns-else-on : goal.returns-else-on
returns-else-on c j = rw c.if-on.false (bit-without c.args.x c.args.i c.requires j)
