-- `step_learn::write_row` meets its contract.
use Rattle.step_learn.proofs.ChunkLaws.{row_more}
use Rattle.step_learn.proofs.write_row.Goals as goal

pub returns : goal.returns
returns c =
    let a = c.args in
    row_more a.news.now a.n a.state.now a.b _ c.requires.0 c.requires.1 c.requires.2 c.copy_from_slice.ensures.after
