use mathlib.Core.Path.{◌≡◌}
use lib.Dec.{leb}
use Rattle.meaning.specs.Base.{every}
use Rattle.layout_state.specs.Words.{stretch}
use Rattle.layout_state.proofs.at_most.Given as goal

abbrev pub invariant-loop-i : goal.invariant-loop-i
invariant-loop-i l = every (λ v. leb v l.most) (stretch l.words l.i l.end) ≡ every (λ v. leb v l.most) (stretch l.words l.from l.end)
