-- A part that goes to the tape's end is what its start leaves.
use Rattle.std.proofs.Common.{rules}
use Rattle.laws.specs.PartLaws.{to_end}
use Rattle.prepared.proofs.tape.Prepared.facts.Goals as goal

pub returns : goal.returns
returns c = let same = to_end 152 c.self.inside.tape.now in search (rules, same)
