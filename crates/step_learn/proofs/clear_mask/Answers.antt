-- `step_learn::clear_mask` meets its contract: the mask tells of the rows that are passed, from the last on.
use Rattle.std.proofs.Common.{◌≡◌, ◌+◌, ◌-◌, ℕ, subst, arith}
use Rattle.step_learn.proofs.ClearLaws.{Masked, masked-start, masked-turn, masked-end}
use Rattle.step_learn.proofs.clear_mask.Goals as goal

pub loop-i-init : goal.loop-i-init
loop-i-init c = let a = c.args in masked-start a.words.now a.o a.m

pub loop-i-preserved : goal.loop-i-preserved
loop-i-preserved c =
    let a = c.args in
    let l = c.loop-i in
    let i : ℕ = l.i - 1 in
    let on : l.i ≡ i + 1 = omega arith in
    masked-turn a.words.now a.o a.m i (omega arith) l.mask c.placed-mask.result (subst (λ (j : ℕ). Masked a.words.now a.o a.m j l.mask) on l.invariant) c.placed-mask.ensures

pub returns : goal.returns
returns c =
    let a = c.args in
    let l = c.loop-i in
    masked-end a.words.now a.o a.m l.i l.mask (omega arith) l.invariant
