-- `call_run::ran` meets its contract: with a header that is refused nothing is done.
use Rattle.call_run.proofs.RunLaws.{run-header}
use borrow.Author.Rules.{rules}
use Rattle.call_run.proofs.ran.Goals as goal

pub returns-in_err-begun : goal.returns-in_err-begun
returns-in_err-begun c =
    let a = c.args in
    run-header a.asked.now.state a.asked.now.steps a.asked.now.lent a.store.now a.image.now a.table.now a.events.now _ c.in_err-begun.ensures.reads c.from_residual.result _ (search rules)
