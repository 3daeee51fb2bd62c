-- `jirvuntsag::jirvuntsag_open` meets its contract: the answer, the state and the table are those of the opening.
use Rattle.jirvuntsag.proofs.ToldLaws.{open-near, open_told}
use Rattle.jirvuntsag.proofs.jirvuntsag_open.Goals as goal

pub answer-requires : goal.answer-requires
answer-requires c = open-near _ _ _ c.open-done.ensures

pub returns : goal.returns
returns c =
    let a = c.args in
    open_told a.image.now a.table.now _ c.answer.result c.lay.new.words c.open-done.ensures c.lay.ensures c.answer.ensures
