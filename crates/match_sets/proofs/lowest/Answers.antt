-- `match_sets::lowest` meets its contract: the laws of trailing zeros at 64 bits.
use borrow.Author.Rules.{rules}
use Rattle.match_sets.proofs.BitLaws.{trailing-low, trailing-bit, trailing-none}
use Rattle.match_sets.proofs.lowest.Goals as goal

pub returns : goal.returns
returns c =
    (trailing-low 64 c.args.x (search rules) c.requires, trailing-bit 64 c.args.x (search rules) c.requires, λ j h. trailing-none 64 c.args.x j h)
