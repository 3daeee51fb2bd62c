-- `step_wait::wait` meets its contract: each buffer in its turn, with its weight in the mark.
use Rattle.std.proofs.Common.{◌+◌, ap, arith}
use Rattle.meaning.specs.Wait.{wait}
use Rattle.step_wait.proofs.MarkLaws.{weight-is}
use Rattle.step_wait.proofs.StepLaws.{going_start, going-fits, going_on, going-off, going-made, going-marked}
use Rattle.step_wait.proofs.wait.Goals as goal
use Rattle.step_wait.proofs.wait.Goals.{then-lower, else-lower}

pub loop-k-init : goal.loop-k-init
loop-k-init c = going_start _ _

pub overflow_add-mark : goal.overflow_add-mark
overflow_add-mark c =
    let fits = going-fits c.loop-k.invariant c.loop-k-test.true c.lower.ensures.1 c.if-lower.true in
    omega (arith, fits, weight-is c.loop-k.k c.loop-k-test.true)

pub loop-k-preserved : goal.loop-k-preserved
loop-k-preserved c =
    let l = c.loop-k in
    (elim c.if-lower.branch [
      | then-lower w ↦ rw w.mark-is (going_on l.invariant c.loop-k-test.true c.lower.ensures.1 c.lower.ensures.0 w.if-lower.true (weight-is l.k c.loop-k-test.true))
      | else-lower w ↦ rw w.mark-is (going-off l.invariant c.loop-k-test.true c.lower.ensures.1 c.lower.ensures.0 w.if-lower.false)
    ])

pub returns-clause-by_index : goal.returns-clause-by_index
unfolding wait
returns-clause-by_index c =
    let a = c.args in
    λ clock. ap (λ bs. record { buffers = bs; clock = clock + a.ms }) (going-made c.loop-k.invariant (omega arith))

pub returns-clause-mark : goal.returns-clause-mark
returns-clause-mark c clock clock' = going-marked c.loop-k.invariant (omega arith) clock clock'
