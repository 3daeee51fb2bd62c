-- `step_wait::lower` meets its contract: only the delay changes, and that of a visible buffer does not.
use borrow.Author.Rules.{rules}
use native.Mathlib.Omega.{arith}
use mathlib.Core.Path.{refl}
use Rattle.layout.specs.StateWords.{buffer_in}
use Rattle.step_wait.proofs.DelayLaws.{delay-lowered, arrives-if, stays-if}
use Rattle.step_wait.proofs.lower.Goals as goal

pub returns-then-delay-ms : goal.returns-then-delay-ms
returns-then-delay-ms c =
    let a = c.args in
    let b = buffer_in a.state.now a.k in
    (delay-lowered a.state.now a.k a.ms 0 (search rules) (omega arith), arrives-if b a.ms c.if-delay-eq0.false (omega arith))

pub returns : goal.returns
returns c =
    let a = c.args in
    (delay-lowered a.state.now a.k a.ms _ (search rules) refl, stays-if (buffer_in a.state.now a.k) a.ms c.if-delay-ms.false)
