-- `step_learn::join` meets its contract: the first of the three tests that fails tells why nothing joins.
use Rattle.std.proofs.Common.{sym, ◌∙◌}
use Rattle.meaning.specs.Learning.{chunks_of}
use Rattle.layout.specs.Rows.{facts_in}
use Rattle.layout.specs.StateWords.{buffer_in}
use Rattle.layout.specs.Plans.{facts_on}
use Rattle.step_learn.proofs.JoinLaws.{join-none, join-known, join-among, join-new}
use Rattle.step_learn.proofs.join.Goals as goal
use Rattle.step_learn.proofs.join.Goals.{else-gives-via-then-gives+then-not-known+else-not-among, else-gives-via-then-gives+else-not-known, else-gives-via-else-gives}

pub returns-then-not-among-clause-result_after : goal.returns-then-not-among-clause-result_after
returns-then-not-among-clause-result_after c =
    let a = c.args in
    c.write_row.ensures
    ∙ join-new (chunks_of (facts_on a.image.now.plan a.image.now.tape)) (facts_in a.news.now a.n) (buffer_in a.state.now a.b) (sym c.gives.ensures ∙ c.if-gives.true)
    (sym c.known.ensures ∙ c.if-not-known.true) (sym c.among.ensures ∙ c.if-not-among.true)

pub returns-clause-result_after : goal.returns-clause-result_after
returns-clause-result_after c =
    let a = c.args in
    let known = chunks_of (facts_on a.image.now.plan a.image.now.tape) in
    let old = facts_in a.news.now a.n in
    let buffer = buffer_in a.state.now a.b in
    (elim c.else-gives.branch [
      | else-gives-via-else-gives w ↦ join-none known old buffer (sym c.gives.ensures ∙ w.if-gives.false)
      | else-gives-via-then-gives+else-not-known w ↦ join-known known old buffer (sym c.gives.ensures ∙ w.if-gives.true) (sym w.known.ensures ∙ w.if-not-known.false)
      | else-gives-via-then-gives+then-not-known+else-not-among w ↦ join-among known old buffer (sym c.gives.ensures ∙ w.if-gives.true)
          (sym w.known.ensures ∙ w.if-not-known.true) (sym w.among.ensures ∙ w.if-not-among.false)
    ])
