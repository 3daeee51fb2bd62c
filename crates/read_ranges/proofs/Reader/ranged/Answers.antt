-- A field of any value, held against both ends of its range.
use Rattle.std.proofs.Common.{rules, sym, arith, ◌≤◌, ◌<◌}
use Rattle.meaning.specs.Read.{must}
use Rattle.layout.specs.Walks.{in_range}
use Rattle.layout.proofs.FieldReads.{range-low, range-high, range-kept}
use Rattle.laws.specs.BaseLaws.{by-lt}
use Rattle.read_ranges.proofs.Judged.{missing, kept, broken}
use Rattle.read_ranges.proofs.Reader.ranged.Goals as goal
use Rattle.read_ranges.proofs.Reader.ranged.Goals.{then-value-low-via-then-value-low, then-value-low-via-else-value-low+then-end-value}

pub returns-in_err-value-clause-value : goal.returns-in_err-value-clause-value
returns-in_err-value-clause-value c number some =
    let a = c.args in
    let refused = missing a.width a.self.now.image a.self.now.at (must number (in_range a.low a.end)) _ _ c.in_err-value.ensures.value in
    search (rules, refused)

pub returns-then-value-low-clause-value : goal.returns-then-value-low-clause-value
returns-then-value-low-clause-value c number some =
    let a = c.args in
    let v = c.in_ok-value.value in
    broken a.width a.self.now.image a.self.now.at (must number (in_range a.low a.end)) v _ number c.in_ok-value.ensures.value
    (by-lt v a.low (range-low number a.low a.end v)
    (λ h. range-high number a.low a.end v h
    (elim c.then-value-low.branch [
      | then-value-low-via-then-value-low w ↦ omega (arith, w.if-value-low.true)
      | then-value-low-via-else-value-low+then-end-value w ↦ omega (arith, w.if-end-value.true)
    ]))) some

pub returns-clause-value : goal.returns-clause-value
returns-clause-value c number some =
    let a = c.args in
    kept a.width a.self.now.image a.self.now.at (must number (in_range a.low a.end)) _ _ c.in_ok-value.ensures.value
    (range-kept number a.low a.end c.in_ok-value.value (omega (arith, c.if-value-low.false)) (omega (arith, c.if-end-value.false)))
