-- `jirvuntsag::jirvuntsag_table_len` meets its contract: the answer is that of the table's length.
use Rattle.jirvuntsag.proofs.ToldLaws.{needed-near, length-told}
use Rattle.jirvuntsag.proofs.jirvuntsag_table_len.Goals as goal

pub answer-requires : goal.answer-requires
answer-requires c = needed-near _ _ c.table_length-done.ensures

pub returns : goal.returns
returns c =
    length-told c.args.image.now _ c.answer.result c.table_length-done.ensures c.answer.ensures
