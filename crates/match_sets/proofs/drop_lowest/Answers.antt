-- `match_sets::drop_lowest` meets its contract: the bits of a number and of the number less 1 together.
use Rattle.match_sets.proofs.BitLaws.{bit-dropped, dropped-less}
use Rattle.match_sets.proofs.drop_lowest.Goals as goal

pub returns : goal.returns
returns c =
    ((λ z j b none. bit-dropped c.args.x z j b none), dropped-less c.args.x c.requires)
