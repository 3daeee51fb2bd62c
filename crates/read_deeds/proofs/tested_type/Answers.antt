-- The tests that are left name what all of them name.
use Rattle.std.proofs.Common.{◌∙◌, ◌+◌, ◌*◌, arith}
use Rattle.layout.specs.Rows.{test_in}
use Rattle.read_deeds.proofs.TestedLaws.{tested-start, tested-end, tested-here, tested-next}
use Rattle.read_deeds.proofs.tested_type.Goals as goal

pub loop-i-init : goal.loop-i-init
loop-i-init c = let a = c.args in tested-start (λ k. test_in a.words.now (a.o + 11 * k)) a.n a.b

pub returns-then-words-test : goal.returns-then-words-test
returns-then-words-test c =
    let a = c.args in
    tested-here (λ k. test_in a.words.now (a.o + 11 * k)) a.n a.b c.loop-i.i c.loop-i-test.true c.if-words-test.true ∙ c.loop-i.invariant

pub loop-i-preserved : goal.loop-i-preserved
loop-i-preserved c =
    let a = c.args in
    tested-next (λ k. test_in a.words.now (a.o + 11 * k)) a.n a.b c.loop-i.i c.loop-i-test.true c.if-words-test.false ∙ c.loop-i.invariant

pub returns : goal.returns
returns c =
    let a = c.args in
    tested-end (λ k. test_in a.words.now (a.o + 11 * k)) a.n a.b c.loop-i.i (omega arith) ∙ c.loop-i.invariant
