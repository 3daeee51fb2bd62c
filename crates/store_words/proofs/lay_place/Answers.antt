-- `store_words::lay_place` meets its contract: what was copied are the slots of the row.
use Rattle.store_words.proofs.PlaceLaws.{place-laid}
use Rattle.store_words.proofs.lay_place.Goals as goal

pub returns : goal.returns
returns c =
    let a = c.args in
    place-laid a.store.now a.tape.now a.i a.o c.requires.0 c.requires.1 _ c.copy_from_slice.ensures.after
