-- The row that is written says the action: its buffer, and its deed.
use Rattle.std.proofs.Common.{◌∙◌, ap, ◌<◌, arith}
use Rattle.meaning.specs.Model.{Action}
use Rattle.layout.specs.Rows.{tests_in}
use Rattle.read_ranges.specs.Reading.{told_by}
use Rattle.read_deeds.specs.Deeds.{deed_in}
use Rattle.read_actions.proofs.ActionLaws.{action-on, action-row}
use Rattle.read_actions.proofs.action.Goals as goal

pub returns-clause-row_after : goal.returns-clause-row_after
returns-clause-row_after c =
    let a = c.args in
    let r = a.reader.now in
    let b = c.in_ok-buffer.buffer in
    let first = c.in_ok-buffer.ensures in
    let row = c.deed.new.row in
    let small : b < 8 = omega (arith, first.bounds, c.buffers.ensures.few) in
    let ts = tests_in a.tests.now 0 a.n in
    let says = λ (x : Action). told_by {A = Unit} (λ u. x) c.deed.result c.deed.new.reader in
    ap says (action-row a.row.now row b c.requires.3 small c.deed.ensures.kept)
    ∙ action-on a.sizes.now a.variables ts a.least r.image r.at b _ (rw c.buffers.ensures.value at first.value) c.deed.result c.deed.new.reader (deed_in row)
    (rw (c.types.ensures.value, first.follows) at (c.deed.ensures.by_index a.sizes.now.buffers ts b c.tested_type-tested.ensures))
