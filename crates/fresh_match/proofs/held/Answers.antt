-- `fresh_match::held` meets its contract: the queries that are left give what all give.
use Prim.Native.Nat.{◌+◌}
use mathlib.Core.Path.{sym, ◌∙◌}
use native.Mathlib.Omega.{arith}
use lib.ListN.{get_or}
use Rattle.match_rule.proofs.QueryLaws.{queries-end, queries-turn, refused}
use Rattle.fresh_match.proofs.held.Goals as goal

pub returns-then-not-answers : goal.returns-then-not-answers
returns-then-not-answers c clock =
    let a = c.args in
    sym (refused a.words.now a.o c.loop-asked.asked c.loop-asked-test.true a.state.now clock (sym c.answers.ensures ∙ c.if-not-answers.true))

pub loop-asked-preserved : goal.loop-asked-preserved
loop-asked-preserved c clock =
    let a = c.args in
    let yes = sym c.answers.ensures ∙ c.if-not-answers.false in
    queries-turn a.words.now a.state.now clock (a.o + 89) (get_or a.words.now (a.o + 88) 0) c.loop-asked.asked c.loop-asked-test.true yes ∙ c.loop-asked.invariant clock

pub returns : goal.returns
returns c clock =
    let a = c.args in
    sym (queries-end a.words.now a.state.now clock (a.o + 89) (get_or a.words.now (a.o + 88) 0) c.loop-asked.asked (omega arith)) ∙ c.loop-asked.invariant clock
