-- From `low` to `high` is from `low` to below the number after `high`.
use Rattle.std.proofs.Common.{rules, ◌∙◌, ◌+◌}
use Rattle.layout.proofs.FieldReads.{field-between}
use Rattle.read_ranges.proofs.Reader.count.Goals as goal

pub returns-clause-value : goal.returns-clause-value
returns-clause-value c =
    let a = c.args in
    c.within.ensures.value ∙ field-between a.width a.low a.high a.self.now.image a.self.now.at
