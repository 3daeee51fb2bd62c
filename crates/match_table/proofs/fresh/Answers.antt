-- `match_table::fresh` meets its contract: the entries below k are made.
use mathlib.Core.Path.{sym, ◌∙◌}
use borrow.Author.Rules.{rules}
use Rattle.layout.specs.Rows.{rule_in}
use Rattle.layout.specs.StateWords.{state_in}
use Rattle.match_table.proofs.TableLaws.{making-start, making-turn, making-end}
use Rattle.match_table.proofs.fresh.Goals as goal

pub loop-k-init : goal.loop-k-init
loop-k-init c =
    let a = c.args in
    (search rules, λ clock. making-start (rule_in a.heads.now a.words.now) (state_in a.state.now clock) a.n _)

pub loop-k-preserved : goal.loop-k-preserved
loop-k-preserved c =
    let l = c.loop-k in
    let a = c.args in
    let rule = rule_in a.heads.now a.words.now in (
      search rules,
      λ clock. making-turn rule (state_in a.state.now clock) a.n l.k c.loop-k-test.true l.table l.invariant.0 _ (c.entry_at.ensures clock) ∙ l.invariant.1 clock,
    )

pub returns : goal.returns
returns c clock =
    let l = c.loop-k in
    let a = c.args in
    sym (making-end (rule_in a.heads.now a.words.now) (state_in a.state.now clock) a.n l.k l.table c.loop-k-test.false l.invariant.0) ∙ l.invariant.1 clock
