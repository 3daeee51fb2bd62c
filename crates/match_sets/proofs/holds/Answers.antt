-- `match_sets::holds` meets its contract: the bit is shifted to the lowest place.
use Prim.Native.Nat.{◌+◌, ◌/◌, ◌%◌}
use mathlib.Core.Path.{ap, ◌∙◌}
use native.Mathlib.Nat.{add-zero}
use lib.ListN.{get_or}
use Rattle.meaning.specs.Base.{bit}
use Rattle.match_sets.proofs.BitLaws.{bit-shift}
use Rattle.match_sets.proofs.holds.Goals as goal

pub returns : goal.returns
returns c =
    let a = c.args in
    let x = get_or a.sets.now (a.at + a.k / 64) 0 in
    bit-shift x (a.k % 64) 0 ∙ ap (bit x) (add-zero (a.k % 64))
