-- What is wholly there ends within the image.
use Rattle.std.proofs.Common.{rules, sym, refl, arith}
use Rattle.read_ranges.proofs.Judged.{inside}
use Rattle.read_ranges.proofs.Reader.field.Goals as goal

pub invariant_of-self : goal.invariant_of-self
invariant_of-self c = let r = c.self.inside in (omega (arith, c.self.invariant.0), inside c.args.width r.image.now r.at _ _ c.in-Some.ensures)
