-- `step_note::note` meets its contract: three words, if there is room for them.
use Rattle.std.proofs.Common.{◌∷◌, [], refl, rules}
use Rattle.step_note.proofs.NoteLaws.{noted-none, noted-lent}
use Rattle.step_note.proofs.note.Goals as goal

pub returns-then-events-at : goal.returns-then-events-at
returns-then-events-at c = noted-none c.args.events.now c.args.k _ c.if-events-at.true

pub returns : goal.returns
returns c =
    let a = c.args in
    noted-lent a.events.now a.k _ (a.clock ∷ a.kind ∷ a.value ∷ []) c.if-events-at.false (search rules) refl
