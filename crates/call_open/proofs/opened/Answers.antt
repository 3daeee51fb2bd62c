-- `call_open::opened` meets its contract: a header that is refused opens nothing.
use Rattle.call_open.proofs.OpenLaws.{open-header}
use borrow.Author.Rules.{rules}
use Rattle.call_open.proofs.opened.Goals as goal

pub returns-in_err-begun : goal.returns-in_err-begun
returns-in_err-begun c =
    let a = c.args in
    open-header a.image.now a.table.now _ c.in_err-begun.ensures.reads _ _ (search rules)
