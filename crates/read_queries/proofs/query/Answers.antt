-- A buffer of three bits and a kind of two, in one word.
use Rattle.std.proofs.Common.{rules, arith}
use Rattle.meaning.specs.Image.{query}
use Rattle.read_queries.proofs.QueryLaws.{word_says}
use Rattle.read_queries.proofs.query.Goals as goal

pub returns-clause-value : goal.returns-clause-value
unfolding query
returns-clause-value c =
    let says = word_says c.in_ok-buffer.buffer c.in_ok-kind.kind (omega (arith, c.in_ok-buffer.ensures.bounds.1, c.requires)) in
    rw (says, ← c.in_ok-buffer.ensures.value) (search rules)
