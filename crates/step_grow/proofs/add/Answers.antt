-- `step_grow::add` meets its contract: the row after the others, the fact's word the end of its chain, the last link before it the fact's number.
use Rattle.step_grow.proofs.GrowLaws.{grown-one}
use Rattle.step_grow.proofs.add.Goals as goal

pub returns : goal.returns
returns c =
    let a = c.args in
    grown-one a.plan a.tape.now a.news.now a.q c.requires.0 c.requires.1 c.requires.2 c.requires.3 c.last_link-at.result c.last_link-at.ensures _ c.copy_from_slice.ensures.after
