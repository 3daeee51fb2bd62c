-- `jirvuntsag::given` meets its contract: both judgements of the words, one after the other.
use mathlib.Core.Path.{sym, ◌∙◌}
use Rattle.jirvuntsag.proofs.WordLaws.{both-fit}
use Rattle.jirvuntsag.proofs.given.Goals as goal

pub returns : goal.returns
returns c =
    both-fit c.args.words.now c.in_ok-buffers.buffers c.read_state.result (sym c.in_ok-buffers.was ∙ c.narrow.ensures) (sym c.flags_fit.ensures ∙ c.if-not-flags_fit.false) c.read_state.ensures
