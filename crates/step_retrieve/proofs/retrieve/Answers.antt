-- `step_retrieve::retrieve` meets its contract: the best so far, and then the facts that are left, give the best of all; what a chain passes does not fit.
use Rattle.std.proofs.Common.{◌≡◌, ◌+◌, ◌%◌, true, refl, sym, ◌∙◌, get_or, arith, rules}
use Rattle.meaning.specs.Image.{names}
use Rattle.step_retrieve.proofs.TurnLaws.{found-start, found-turn, found-end}
use Rattle.step_retrieve.proofs.LeapLaws.{leapt}
use Rattle.step_retrieve.proofs.retrieve.Goals as goal

pub loop-k-init : goal.loop-k-init
loop-k-init c = let a = c.args in record { best = tt; weighed = refl; same = found-start a.facts.now a.n _ _ a.nine.now }

pub loop-k-preserved : goal.loop-k-preserved
loop-k-preserved c =
    let a = c.args in
    let l = c.loop-k in
    record {
      best = search rules;
      weighed = c.better-best.ensures.weighed;
      same = found-turn a.facts.now a.n _ _ a.nine.now l.k l.best.fact _ c.loop-k-test.true c.better-best.ensures.turned ∙ l.invariant.same;
    }

pub returns-then-not-is_named-clause-nine_value : goal.returns-then-not-is_named-clause-nine_value
returns-then-not-is_named-clause-nine_value c =
    let a = c.args in
    let l = c.loop-k in
    sym l.invariant.same ∙ found-end a.facts.now a.n _ _ a.nine.now l.k l.best.fact c.loop-k-test.false

pub loop-next-init : goal.loop-next-init
loop-next-init c =
    let a = c.args in
    let named : names (get_or a.words.now (a.q + 2) 0) 0 ≡ true = search rules in
    let leap = c.requires.4.starts (c.value_of-first.result % 64) (omega arith) in
    record {
      best = tt;
      weighed = refl;
      same = leapt a.facts.now a.n a.words.now a.q a.nine.now _ c.value_of-first.ensures named 0 _ leap _ ∙ found-start a.facts.now a.n _ _ a.nine.now;
      chained = leap.lands;
    }

pub loop-next-preserved : goal.loop-next-preserved
loop-next-preserved c =
    let a = c.args in
    let l = c.loop-next in
    let below = c.loop-next-test.true in
    let named : names (get_or a.words.now (a.q + 2) 0) 0 ≡ true = search rules in
    let leap = rw (l.invariant.chained below) at (c.requires.4.goes_on l.next below) in
    record {
      best = search rules;
      weighed = c.better-best-in-loop-next.ensures.weighed;
      same = leapt a.facts.now a.n a.words.now a.q a.nine.now _ c.value_of-first.ensures named (l.next + 1) _ leap _
          ∙ found-turn a.facts.now a.n _ _ a.nine.now l.next l.best.fact _ below c.better-best-in-loop-next.ensures.turned
          ∙ l.invariant.same;
      chained = leap.lands;
    }

pub returns-clause-nine_value : goal.returns-clause-nine_value
returns-clause-nine_value c =
    let a = c.args in
    let l = c.loop-next in
    sym l.invariant.same ∙ found-end a.facts.now a.n _ _ a.nine.now l.next l.best.fact c.loop-next-test.false
