use Prim.Native.Nat.{◌+◌, ◌*◌}
use mathlib.Core.Path.{◌≡◌}
use lib.ListN.{length}
use Rattle.meaning.specs.Learning.{chunks_of}
use Rattle.layout.specs.Rows.{actions_in}
use Rattle.layout.specs.Plans.{facts_on, rows_on}
use Rattle.match_sets.proofs.BitWalk.{Walk}
use Rattle.step_learn.proofs.CollectLaws.{Held}
use Rattle.step_learn.proofs.collect.Given as goal

abbrev pub invariant-loop-rest : goal.invariant-loop-rest
invariant-loop-rest l =
    (length l.news ≡ length l.initial.news) × Walk l.mask 8 (Held (chunks_of (facts_on l.image.plan l.image.tape)) (actions_in (rows_on l.image.plan l.image.tape) (185 * l.k + 97) l.m) l.state l.news l.n) l.rest

abbrev pub decreases-loop-rest : goal.decreases-loop-rest
decreases-loop-rest l = l.rest
