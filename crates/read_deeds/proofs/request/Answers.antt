-- A type from 1 on is neither the word to modify nor the word to clear.
use Rattle.std.proofs.Common.{rules}
use Rattle.meaning.specs.Image.{deed}
use Rattle.layout.specs.Rows.{sizes}
use Rattle.read_deeds.proofs.DeedLaws.{request-says}
use Rattle.read_deeds.proofs.request.Goals as goal

pub returns-in_err-k-clause-by_index : goal.returns-in_err-k-clause-by_index
unfolding deed
returns-in_err-k-clause-by_index c buffers ts b = search rules

pub returns-clause-by_index : goal.returns-clause-by_index
returns-clause-by_index c buffers ts b =
    let a = c.args in
    let r = a.reader.now in
    let isa = c.in_ok-k.ensures in
    request-says (sizes buffers a.types.now) a.variables ts b r.image r.at c.deed_for.result c.deed_for.new.reader c.deed_for.new.row _ _ isa.value
    c.deed_for.ensures.word (rw isa.follows at c.deed_for.ensures.row_after)
