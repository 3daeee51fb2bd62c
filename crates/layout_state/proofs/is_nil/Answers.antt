-- `layout_state::is_nil` meets its contract: its first nine words are 0.
use mathlib.Core.Path.{◌∙◌}
use Rattle.layout_state.proofs.WellLaws.{nil-words}
use Rattle.layout_state.proofs.is_nil.Goals as goal

pub returns : goal.returns
returns c = let a = c.args in c.at_most.ensures ∙ nil-words a.words.now a.k
