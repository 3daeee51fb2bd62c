-- Three readings, each from where the one before it ended, in the places of a row.
use Rattle.std.proofs.Common.{rules}
use Rattle.meaning.specs.Image.{fact}
use Rattle.read_facts.proofs.FactLaws.{fact_row}
use Rattle.read_facts.proofs.fact.Goals as goal

pub returns-clause-value : goal.returns-clause-value
unfolding fact
returns-clause-value c =
    let row = fact_row c.args.row.now c.chunk.new.slots c.in_ok-row.field-0 c.in_ok-row-2.field-0 c.in_ok-row-3.field-0 (search rules) (search rules) in
    rw (row, ← c.in_ok-row.ensures.value) (search rules)
