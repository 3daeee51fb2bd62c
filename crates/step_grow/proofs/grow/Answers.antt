-- `step_grow::grow` meets its contract: the facts before i are added.
use native.Mathlib.Omega.{arith}
use Rattle.step_grow.proofs.GrowLaws.{grown-none, grown-on, fits_one}
use Rattle.step_grow.proofs.grow.Goals as goal

pub loop-i-init : goal.loop-i-init
loop-i-init c = let a = c.args in grown-none a.plan a.tape.now a.news.now c.requires.0 c.requires.1

pub add-grown-requires : goal.add-grown-requires
add-grown-requires c =
    let l = c.loop-i in
    let a = c.args in
    let grown = l.invariant in
    let fit = fits_one a.plan a.tape.now l.grown l.tape a.news.now l.i grown a.n c.loop-i-test.true c.requires.2 in
    (grown.extended.planned, grown.chains, fit, omega (arith, c.requires.3))

pub loop-i-preserved : goal.loop-i-preserved
loop-i-preserved c =
    let l = c.loop-i in
    let a = c.args in
    grown-on a.plan a.tape.now l.grown l.tape a.news.now l.i l.invariant _ _ c.add-grown.ensures
