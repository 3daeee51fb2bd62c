-- `call_refresh::refreshed` meets its contract: with a header that is refused nothing is done.
use Rattle.call_refresh.proofs.RefreshLaws.{refresh-header}
use borrow.Author.Rules.{rules}
use Rattle.call_refresh.proofs.refreshed.Goals as goal

pub returns-in_err-begun : goal.returns-in_err-begun
returns-in_err-begun c =
    let a = c.args in
    refresh-header a.state a.mark a.image.now a.table.now _ c.in_err-begun.ensures.reads _ (search rules)
