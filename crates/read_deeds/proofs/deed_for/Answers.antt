-- The deed's word stays while the mask and its terms are written after it.
use Rattle.std.proofs.Common.{◌∙◌, arith, set, get_or-set_same}
use Rattle.layout.proofs.WordLaws.{below_get}
use Rattle.read_deeds.proofs.deed_for.Goals as goal

pub returns-clause-word : goal.returns-clause-word
returns-clause-word c =
    let a = c.args in
    below_get 2 (set a.row.now 1 a.word) c.masked.new.row c.masked.ensures.kept 1 (omega arith) ∙ get_or-set_same a.row.now 1 a.word 0 (omega arith)
