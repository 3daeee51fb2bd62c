-- `step_retrieve::chain` meets its contract: no chain at first, and then each fact before those after it.
use Rattle.std.proofs.Common.{◌≡◌, ℕ, ◌+◌, ◌-◌, sym, replicate, length, take, subst, arith, rules}
use lib.Seq.{length-take-le}
use Rattle.step_retrieve.proofs.ChainLaws.{Laid, laid_none, laid-turn}
use Rattle.step_retrieve.proofs.chain.Goals as goal

pub slice_bounds-fill-end-2 : goal.slice_bounds-fill-end-2
slice_bounds-fill-end-2 c = sym (length-take-le 64 c.args.index.now (omega arith))

pub loop-k-init : goal.loop-k-init
loop-k-init c =
    let filled : c.fill.new.self ≡ replicate (length (take 64 c.args.index.now)) 768 = search rules in
    rw (filled, length-take-le 64 c.args.index.now (omega arith)) (laid_none c.args.facts.now c.args.n _ c.requires.0)

pub loop-k-preserved : goal.loop-k-preserved
loop-k-preserved c =
    let a = c.args in
    let l = c.loop-k in
    let k : ℕ = l.k - 1 in
    let on : l.k ≡ k + 1 = omega arith in
    laid-turn a.facts.now a.n k l.index (omega arith) (omega arith) (subst (λ (i : ℕ). Laid a.facts.now a.n i l.index) on l.invariant)
