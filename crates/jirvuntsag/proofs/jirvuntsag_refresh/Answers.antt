-- `jirvuntsag::jirvuntsag_refresh` meets its contract: the refresh is of the state that the words gave.
use mathlib.Core.Path.{◌∙◌}
use Rattle.jirvuntsag.proofs.WordLaws.{held-or}
use Rattle.jirvuntsag.proofs.ToldLaws.{refresh-near, refresh-told}
use Rattle.jirvuntsag.proofs.jirvuntsag_refresh.Goals as goal

pub answer-requires : goal.answer-requires
answer-requires c = refresh-near _ _ _ _ _ c.refresh-done.ensures

pub returns : goal.returns
returns c =
    let a = c.args in
    let from = c.unwrap_or-from.ensures ∙ (rw c.unfit_state.ensures (held-or a.state.now c.given.result c.given.ensures)) in
    refresh-told a.image.now a.state.now a.table.now a.mark c.unwrap_or-from.result _ c.answer.result from c.refresh-done.ensures c.answer.ensures
