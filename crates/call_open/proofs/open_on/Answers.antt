-- `call_open::open_on` meets its contract: refused with nothing done, or opened with the fresh table.
use Rattle.laws.specs.PartLaws.{to_end}
use Rattle.call_open.proofs.OpenLaws.{open-refused, open-accepted}
use borrow.Author.Rules.{rules}
use Rattle.call_open.proofs.open_on.Goals as goal

pub returns-in_err-accept : goal.returns-in_err-accept
returns-in_err-accept c =
    let a = c.args in
    open-refused a.begun.now.image a.table.now a.begun.now.plan _ _ c.in_err-accept.ensures.taken _ _ (search rules)

pub returns : goal.returns
returns c =
    let a = c.args in
    open-accepted a.begun.now.image a.table.now a.begun.now.plan _ _ c.in_ok-accept.ensures.taken c.read_state.result _ (simp to_end at c.read_state.ensures) (search rules)
