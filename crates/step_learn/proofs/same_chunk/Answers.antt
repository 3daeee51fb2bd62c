-- `step_learn::same_chunk` meets its contract: of two chunks of one type the slots decide.
use Rattle.std.proofs.Common.{◌∙◌}
use Rattle.step_learn.proofs.ChunkLaws.{chunk-slots}
use Rattle.step_learn.proofs.same_chunk.Goals as goal

pub returns-then-state-o : goal.returns-then-state-o
returns-then-state-o c =
    let a = c.args in
    c.eq.ensures ∙ chunk-slots a.state.now a.b a.facts.now a.f c.requires.0 c.requires.1 c.requires.2 c.if-state-o.true
