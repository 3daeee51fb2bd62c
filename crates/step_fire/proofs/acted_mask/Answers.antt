-- `step_fire::acted_mask` meets its contract: the mask, with the rows that are left, tells the buffers of all rows.
use Rattle.step_fire.proofs.ActLaws.{masked-start, masked-turn, masked-end}
use Rattle.step_fire.proofs.acted_mask.Goals as goal

pub loop-i-init : goal.loop-i-init
loop-i-init c = let a = c.args in masked-start a.words.now a.o a.m

pub loop-i-preserved : goal.loop-i-preserved
loop-i-preserved c =
    let a = c.args in
    let l = c.loop-i in
    masked-turn a.words.now a.o a.m l.i l.mask c.loop-i-test.true l.invariant

pub returns : goal.returns
returns c =
    let a = c.args in
    let l = c.loop-i in
    masked-end a.words.now a.o a.m l.i l.mask c.loop-i-test.false l.invariant
