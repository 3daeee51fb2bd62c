-- `call_refresh::refresh_on` meets its contract: refused with nothing done, or what is left to refuse, and the refresh.
use Rattle.call_refresh.proofs.RefreshLaws.{refresh-refused, refresh-accepted}
use borrow.Author.Rules.{rules}
use Rattle.call_refresh.proofs.refresh_on.Goals as goal

pub returns-in_err-accept : goal.returns-in_err-accept
returns-in_err-accept c =
    let a = c.args in
    refresh-refused a.state a.mark a.begun.now.image a.table.now a.begun.now.plan _ _ c.in_err-accept.ensures.taken _ (search rules)

pub returns : goal.returns
returns c =
    let a = c.args in
    refresh-accepted a.state a.mark a.begun.now.image a.table.now a.begun.now.plan _ _ c.in_ok-accept.ensures.taken _ (search rules)
