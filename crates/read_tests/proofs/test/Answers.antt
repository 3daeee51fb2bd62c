-- The row that is written says the test: its buffer, its type, and its mask with the terms.
use Rattle.std.proofs.Common.{rules, ◌∙◌, ap, ◌<◌, arith}
use Rattle.meaning.specs.Model.{Test}
use Rattle.meaning.specs.Image.{test}
use Rattle.layout.specs.Rows.{masked_in}
use Rattle.read_ranges.specs.Reading.{told_by}
use Rattle.read_tests.proofs.TestLaws.{test_on, test-row}
use Rattle.read_tests.proofs.test.Goals as goal

pub returns-clause-row_after : goal.returns-clause-row_after
returns-clause-row_after c =
    let a = c.args in
    let r = a.reader.now in
    let first = c.in_ok-buffer.ensures in
    let second = c.in_ok-isa.ensures in
    let row = c.masked.new.row in
    let small : c.in_ok-buffer.buffer < 8 = omega (arith, first.bounds, c.buffers.ensures.few) in
    let says = λ (t : Test). told_by {A = Unit} (λ u. t) c.masked.result c.masked.new.reader in
    ap says (test-row a.row.now row _ _ c.requires.1 small c.masked.ensures.kept)
    ∙ test_on a.sizes.now a.variables a.least r.image r.at _ _ (rw c.buffers.ensures.value at first.value) _ _ (rw (c.types.ensures.value, first.follows) at second.value)
    c.masked.result c.masked.new.reader (masked_in row 0) (rw (c.types-2.ensures.value, second.follows, first.follows) at c.masked.ensures.row_after)

pub returns-in_err-buffer-clause-row_after : goal.returns-in_err-buffer-clause-row_after
unfolding test
returns-in_err-buffer-clause-row_after c = search rules

pub returns-in_err-isa-clause-row_after : goal.returns-in_err-isa-clause-row_after
unfolding test
returns-in_err-isa-clause-row_after c = search rules
