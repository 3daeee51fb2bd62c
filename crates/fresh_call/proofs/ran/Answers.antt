-- `fresh_call::ran` meets its contract: with a header that is refused nothing is done.
use Rattle.read_image.proofs.WholeLaws.{decode-refused}
use Rattle.fresh_call.proofs.CallLaws.{fresh-refused}
use borrow.Author.Rules.{rules}
use Rattle.fresh_call.proofs.ran.Goals as goal

pub returns-in_err-begun : goal.returns-in_err-begun
returns-in_err-begun c =
    let a = c.args in
    fresh-refused a.asked.now.state a.asked.now.steps a.asked.now.lent a.store.now a.image.now a.events.now _ (decode-refused a.image.now _ _ c.in_err-begun.ensures.reads) c.from_residual.result (search rules)
