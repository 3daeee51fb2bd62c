-- `match_table::refresh` meets its contract: the entries below k are done, and counted where their rule tests or queries a marked buffer.
use Prim.Native.Nat.{◌+◌, ◌*◌}
use mathlib.Core.Path.{◌≡◌, sym, ap, ◌∙◌}
use borrow.Author.Rules.{rules}
use native.Mathlib.Omega.{arith}
use lib.ListN.{length}
use Rattle.layout.specs.Rows.{rule_in}
use Rattle.layout.specs.StateWords.{state_in}
use Rattle.match_table.specs.Entries.{doing}
use Rattle.match_table.proofs.TableLaws.{doing-start, doing-marked, doing-other, doing_end, mark-meets, mark-misses}
use Rattle.match_table.proofs.TableLaws.{counting, counting-start, counting-marked, counting-other, counting-end}
use Rattle.match_table.proofs.refresh.Goals as goal
use Rattle.match_table.proofs.refresh.Goals.{else-heads-k-ne0, then-heads-k-ne0}

pub loop-k-init : goal.loop-k-init
loop-k-init c =
    let a = c.args in
    let rule = rule_in a.heads.now a.words.now in
    (search rules, λ clock. doing-start rule (state_in a.state.now clock) a.n a.mark _, search rules, counting-start rule a.mark a.n)

pub loop-k-preserved : goal.loop-k-preserved
loop-k-preserved c =
    let l = c.loop-k in
    let a = c.args in
    let rule = rule_in a.heads.now a.words.now in
    let count = counting rule a.mark a.n (l.k + 1) in
    (elim c.if-heads-k-ne0.branch [
      | then-heads-k-ne0 w ↦ let m = mark-meets a.heads.now a.words.now a.n l.k a.mark c.requires.0 c.loop-k-test.true w.if-heads-k-ne0.true in
          let fits : length c.if-heads-k-ne0.table ≡ 9 * a.n = ap length w.table-is ∙ w.entry_at.auto.table ∙ l.invariant.0 in (
            fits,
            λ clock. doing-marked rule (state_in a.state.now clock) a.n l.k c.loop-k-test.true l.table l.invariant.0 a.mark c.if-heads-k-ne0.table m (w.table-is ∙ w.entry_at.ensures clock) ∙ l.invariant.1 clock,
            omega (arith, w.count-is, l.invariant.2),
            ap count w.count-is ∙ counting-marked rule a.mark a.n l.k l.count c.loop-k-test.true m ∙ l.invariant.3,
          )
      | else-heads-k-ne0 w ↦ let m = mark-misses a.heads.now a.words.now a.n l.k a.mark c.requires.0 c.loop-k-test.true w.if-heads-k-ne0.false in (
        ap length w.table-is ∙ l.invariant.0,
        λ clock. ap (doing rule (state_in a.state.now clock) a.n a.mark (l.k + 1)) w.table-is
            ∙ doing-other rule (state_in a.state.now clock) a.n l.k c.loop-k-test.true l.table l.invariant.0 a.mark m ∙ l.invariant.1 clock,
        omega (arith, w.count-is, l.invariant.2),
        ap count w.count-is ∙ counting-other rule a.mark a.n l.k l.count c.loop-k-test.true m ∙ l.invariant.3,
      )
    ])

pub returns-clause-by_index : goal.returns-clause-by_index
returns-clause-by_index c =
    let l = c.loop-k in
    let a = c.args in
    let rule = rule_in a.heads.now a.words.now in
    λ clock. sym (doing_end rule (state_in a.state.now clock) a.n a.mark l.k l.table c.loop-k-test.false l.invariant.0) ∙ l.invariant.1 clock

pub returns-clause-counted : goal.returns-clause-counted
returns-clause-counted c =
    let l = c.loop-k in
    let a = c.args in
    let rule = rule_in a.heads.now a.words.now in
    sym (counting-end rule a.mark a.n l.k l.count c.loop-k-test.false) ∙ l.invariant.3
