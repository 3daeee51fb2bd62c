-- `store_words::lay_row` meets its contract: what was copied are the slots of the place.
use Rattle.store_words.proofs.PlaceLaws.{row_laid}
use Rattle.store_words.proofs.lay_row.Goals as goal

pub returns : goal.returns
returns c =
    let a = c.args in
    row_laid a.tape.now a.store.now a.i a.o c.requires.1 c.requires.0 _ c.copy_from_slice.ensures.after
