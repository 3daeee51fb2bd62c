-- The tests that stand in the words so far, and then what is left from here, are the whole.
use Rattle.std.proofs.Common.{◌≡◌, ◌∙◌, ◌+◌, ◌*◌, ◌≤◌, refl, ap, length, take, arith, rules}
use lib.Seq.{length-sets}
use Rattle.meaning.specs.Numbers.{finer}
use Rattle.meaning.specs.Image.{test}
use Rattle.laws.specs.PartLaws.{part-long}
use Rattle.layout.specs.Rows.{rows_in, test_in, tests_in}
use Rattle.layout.proofs.WordLaws.{sets-take, lent-sets}
use Rattle.layout.proofs.RowLaws.{test-like, in-more}
use Rattle.layout.proofs.LoopLaws.{onward-start, onward-end, onward-bad, onward-turn}
use Rattle.read_tests.proofs.tests.Goals as goal

pub loop-i-init : goal.loop-i-init
unfolding rows_in
loop-i-init c =
    let a = c.args in
    record { reads = onward-start (test finer a.sizes.now a.variables) (λ t. t.buffer) a.reader.now.image a.n 0 a.reader.now.at; follows = refl; long = refl; kept = refl }

pub returns-in_err-test-clause-n_after : goal.returns-in_err-test-clause-n_after
returns-in_err-test-clause-n_after c =
    let l = c.loop-i in
    let a = c.args in
    let refused =
    onward-bad (test finer a.sizes.now a.variables) (λ t. t.buffer) l.reader.image a.n (tests_in l.words a.o l.i) l.i l.least l.reader.at c.loop-i-test.true _ _ c.in_err-test.ensures.row_after
    ∙ l.invariant.reads in
    search (rules, refused)

pub loop-i-preserved : goal.loop-i-preserved
loop-i-preserved c =
    let l = c.loop-i in
    let a = c.args in
    let read = c.in_ok-test.ensures in
    let row = c.test.new.row in
    let q = a.o + 11 * l.i in
    let room : q + 11 ≤ length l.words = omega (arith, l.invariant.long, c.requires.1, c.loop-i-test.true) in
    let whole : length row ≡ 11 = c.test.auto.row ∙ part-long q 11 l.words room in
    let written = lent-sets q 11 l.words row room whole in
    let turn =
    onward-turn (test finer a.sizes.now a.variables) (λ t. t.buffer) l.reader.image a.n (tests_in l.words a.o l.i) l.i l.least l.reader.at c.loop-i-test.true (test_in row 0) _ read.row_after in
    record {
      reads = rw (written, in-more test_in test-like l.words a.o l.i row whole room, read.follows) (turn ∙ l.invariant.reads);
      follows = read.follows ∙ l.invariant.follows;
      long = ap length written ∙ length-sets l.words q row ∙ l.invariant.long;
      kept = ap (take a.o) written ∙ sets-take a.o l.words q row (omega arith) ∙ l.invariant.kept;
    }

pub returns-clause-n_after : goal.returns-clause-n_after
returns-clause-n_after c =
    let l = c.loop-i in
    let a = c.args in
    let all : l.i ≡ a.n = omega arith in
    rw all at (onward-end (test finer a.sizes.now a.variables) (λ t. t.buffer) l.reader.image a.n (tests_in l.words a.o l.i) l.i l.least l.reader.at (omega arith) ∙ l.invariant.reads)
