-- `step_fire::action_on` meets its contract: what is left of the rows gives what all give.
use Rattle.std.proofs.Common.{◌≡◌, ◌-◌, ℕ, sym, ap, ◌∙◌, subst, arith, rules}
use Rattle.meaning.specs.Fire.{deed_on}
use Rattle.meaning.specs.Mark.{is_some}
use Rattle.layout.specs.Rows.{actions_in}
use Rattle.step_fire.proofs.ActLaws.{deed_from, deed-start, deed-here, deed-further, deed-left, deed-last}
use Rattle.step_fire.proofs.action_on.Goals as goal

pub overflow_sub-last : goal.overflow_sub-last
overflow_sub-last c =
    let a = c.args in
    let some_row = deed-left a.words.now a.o a.m a.k 0 (ap is_some (deed-start a.words.now a.o a.m a.k) ∙ c.requires.1) in
    omega arith

pub loop-i-init : goal.loop-i-init
loop-i-init c =
    let a = c.args in
    let all = deed-start a.words.now a.o a.m a.k in
    (deed-left a.words.now a.o a.m a.k 0 (ap is_some all ∙ c.requires.1), all)

pub returns-then-words-q : goal.returns-then-words-q
returns-then-words-q c =
    let a = c.args in
    let l = c.loop-i in
    (sym l.invariant.1 ∙ deed-here a.words.now a.o a.m a.k l.i l.invariant.0 c.if-words-q.true, search rules)

pub loop-i-preserved : goal.loop-i-preserved
loop-i-preserved c =
    let a = c.args in
    let l = c.loop-i in
    (omega arith, deed-further a.words.now a.o a.m a.k l.i l.invariant.0 c.if-words-q.false ∙ l.invariant.1)

pub returns : goal.returns
returns c =
    let a = c.args in
    let last : ℕ = a.m - 1 in
    let at_last : c.loop-i.i ≡ last = omega arith in
    let left = subst (λ (i : ℕ). deed_from a.words.now a.o a.m a.k i ≡ deed_on (actions_in a.words.now a.o a.m) a.k) at_last c.loop-i.invariant.1 in
    (sym left ∙ deed-last a.words.now a.o a.m a.k last (omega arith) (ap is_some left ∙ c.requires.1), omega arith)
