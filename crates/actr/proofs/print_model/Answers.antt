-- `actr::print_model` meets its contract: a refusal is the last line alone, and the run from what open gives has the lines of the definition.
use mathlib.Core.Path.{ap, ◌∙◌}
use native.Mathlib.Omega.{arith}
use Rattle.actr_lines.specs.Text.{text as lines_text}
use Rattle.actr_lines.proofs.WrittenLaws.{written_as}
use Rattle.actr_lines.proofs.LineLaws.{text-one}
use Rattle.actr.proofs.OpenLaws.{printed-run, printed-refused}
use Rattle.actr.proofs.print_model.Goals as goal

pub returns-then-opened-ne0 : goal.returns-then-opened-ne0
returns-then-opened-ne0 c =
    let a = c.args in
    let refused = printed-refused a.image.now a.table.now c.requires.0 _ c.open-opened.ensures c.if-opened-ne0.true in
    written_as (text-one _ ∙ ap lines_text refused) (omega arith) c.put_end.ensures

pub returns : goal.returns
returns c =
    let a = c.args in
    written_as (ap lines_text (printed-run a.image.now a.table.now c.requires.0 _ c.open-opened.ensures)) (omega arith) c.print_run.ensures
