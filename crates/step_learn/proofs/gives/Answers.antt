-- `step_learn::gives` meets its contract: nine words that are not all 0 are another chunk than nil.
use Rattle.std.proofs.Common.{◌∙◌}
use Rattle.step_learn.proofs.ChunkLaws.{gives-now}
use Rattle.step_learn.proofs.gives.Goals as goal

pub returns-then-state-o-eq0 : goal.returns-then-state-o-eq0
returns-then-state-o-eq0 c = c.ne.ensures ∙ gives-now c.args.state.now c.args.b c.requires.0 c.requires.1 c.if-state-o-eq0.true
