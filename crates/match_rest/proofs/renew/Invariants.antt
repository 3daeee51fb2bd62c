use Rattle.match_rest.proofs.RenewLaws.{Renewed, Surer}
use Rattle.match_rest.specs.Rest.{Lying}
use lib.ListN.{length}
use mathlib.Core.Path.{◌≡◌}
use Rattle.match_rest.proofs.renew.Given as goal

abbrev pub invariant-loop-w : goal.invariant-loop-w
invariant-loop-w l = (length l.table ≡ length l.initial.table) × (length l.sets ≡ length l.initial.sets)
    × Lying l.heads l.words l.order l.n l.state l.table l.sets × Renewed l.heads l.words l.n l.state l.mark l.w l.initial.table l.table × Surer l.heads l.words l.n l.mark l.initial.sets l.sets
