-- `actr::print_run` meets its contract: the lines put are those of the events noted, and the last.
use Prim.Native.Nat.{◌≤◌}
use mathlib.Core.Path.{ap, ◌∙◌}
use native.Mathlib.Omega.{arith}
use Rattle.actr_lines.specs.Text.{text as lines_text}
use Rattle.actr_lines.proofs.WrittenLaws.{written-join, written_as}
use Rattle.actr_lines.proofs.LineLaws.{text-last}
use Rattle.actr.proofs.RunLaws.{lent-lines, lent-few}
use borrow.Author.Rules.{rules}
use Rattle.actr.proofs.print_run.Goals as goal
use Rattle.actr.proofs.print_run.Goals.{After-run_lent-done}

-- no more steps were made than were asked for
most : (c : After-run_lent-done) → c.run_lent-done.result.made ≤ 1000
most c = let a = c.args in lent-few a.image.now a.state a.table.now _ _ _ c.run_lent-done.result _ _ c.run_lent-done.ensures.0

pub put_steps-end-requires : goal.put_steps-end-requires
put_steps-end-requires c = (omega (arith, most (goal.at.put_steps-end-requires c).After-run_lent-done, c.run_lent-done.auto.events), omega (arith, most (goal.at.put_steps-end-requires c).After-run_lent-done))

pub put_end-requires : goal.put_end-requires
put_end-requires c =
    omega (arith, most (goal.at.put_end-requires c).After-run_lent-done, c.put_steps-end.ensures.ends, c.put_steps-end.ensures.fits)

pub returns : goal.returns
returns c =
    let a = c.args in
    let lines = lent-lines a.state a.table.now 1000 _ (search rules) a.image.now 1 _ c.run_lent-done.result _ _ _ c.run_lent-done.ensures.0 c.run_lent-done.ensures.1 in
    written_as (text-last _ _ ∙ ap lines_text lines) (omega (arith, most (goal.at.returns c).After-run_lent-done)) (written-join c.put_steps-end.ensures c.put_end.ensures)
