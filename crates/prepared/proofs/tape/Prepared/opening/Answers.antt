-- A part that goes to the tape's end is what its start leaves.
use Rattle.std.proofs.Common.{rules}
use Rattle.laws.specs.PartLaws.{to_end}
use Rattle.prepared.proofs.tape.Prepared.opening.Goals as goal

pub returns : goal.returns
returns c = let same = to_end 64 c.self.inside.tape.now in search (rules, same)
