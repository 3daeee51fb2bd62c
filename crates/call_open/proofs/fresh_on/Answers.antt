-- `call_open::fresh_on` meets its contract: heads, rows and opening state are handed on from their sections of the tape.
use Rattle.laws.specs.PartLaws.{to_end}
use Rattle.call_open.proofs.fresh_on.Goals as goal

pub returns : goal.returns
returns c = simp to_end at (c.fresh.ensures 0)
