-- A type by the ranges of its number.
use Rattle.std.proofs.Common.{rules, sym, arith, ◌≤◌, ◌<◌, ◌≡◌, length, ◌*◌}
use Rattle.meaning.specs.Numbers.{bad_number}
use Rattle.meaning.specs.Read.{must}
use Rattle.meaning.specs.Image.{a_type}
use Rattle.laws.specs.ReadLaws.{field-got}
use Rattle.laws.specs.BitsLaws.{field_at-lt}
use Rattle.layout.proofs.FieldReads.{range-low, range-high, range-kept}
use Rattle.read_ranges.proofs.Judged.{missing, kept, broken}
use Rattle.read_ranges.proofs.Reader.type_at.Goals as goal

pub returns-in_err-k-clause-value : goal.returns-in_err-k-clause-value
returns-in_err-k-clause-value c =
    let a = c.args in
    let refused = missing 6 a.self.now.image a.self.now.at (must bad_number (a_type a.types.now a.least)) _ _ c.in_err-k.ensures.value in
    search (rules, refused)

pub returns-then-least-gt0-clause-value : goal.returns-then-least-gt0-clause-value
returns-then-least-gt0-clause-value c =
    let a = c.args in
    let k = c.in_ok-k.k in
    let refused =
    broken 6 a.self.now.image a.self.now.at (must bad_number (a_type a.types.now a.least)) k _ bad_number c.in_ok-k.ensures.value
    (range-low 3 a.least (length a.types.now) k (omega (arith, c.in-0.is, c.if-least-gt0.true))) (omega arith) in
    search (rules, refused)

pub returns-then-types-k-clause-value : goal.returns-then-types-k-clause-value
returns-then-types-k-clause-value c =
    let a = c.args in
    let k = c.in_ok-k.k in
    let refused =
    broken 6 a.self.now.image a.self.now.at (must bad_number (a_type a.types.now a.least)) k _ bad_number c.in_ok-k.ensures.value
    (range-high 3 a.least (length a.types.now) k (omega arith) (omega arith)) (omega arith) in
    search (rules, refused)

pub returns-in_default-clause-value : goal.returns-in_default-clause-value
returns-in_default-clause-value c =
    let a = c.args in
    let r = a.self.now in
    let g = field-got 6 _ r.image r.at _ _ (sym c.in_ok-k.ensures.value) in
    absurd (omega (arith, g.is, field_at-lt r.image r.at 6))

pub returns-else-least-gt0-clause-value : goal.returns-else-least-gt0-clause-value
returns-else-least-gt0-clause-value c =
    let a = c.args in
    kept 6 a.self.now.image a.self.now.at (must bad_number (a_type a.types.now a.least)) _ _ c.in_ok-k.ensures.value
    (range-kept 3 a.least (length a.types.now) c.in_ok-k.k (omega (arith, c.in-0.is, c.if-least-gt0.false)) (omega (arith, c.in-0.is)))

pub returns-else-types-k-clause-value : goal.returns-else-types-k-clause-value
returns-else-types-k-clause-value c =
    let a = c.args in
    kept 6 a.self.now.image a.self.now.at (must bad_number (a_type a.types.now a.least)) _ _ c.in_ok-k.ensures.value
    (range-kept 3 a.least (length a.types.now) c.in_ok-k.k (omega arith) (omega arith))
