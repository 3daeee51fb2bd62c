-- `layout_state::well_buffer` meets its contract: the type, the values, the slots past the count and the flag are judged in the order of the definition.
use mathlib.Core.Path.{sym, ◌∙◌}
use Rattle.layout_state.proofs.WellLaws.{well-values, well-past, well-flag}
use borrow.Author.Rules.{rules}
use Rattle.layout_state.proofs.well_buffer.Goals as goal

pub returns-then-not-at_most : goal.returns-then-not-at_most
returns-then-not-at_most c =
    let a = c.args in
    well-values a.words.now a.k a.types.now (search rules) (sym c.at_most.ensures ∙ c.if-not-at_most.true)

pub returns-then-not-at_most-2 : goal.returns-then-not-at_most-2
returns-then-not-at_most-2 c =
    let a = c.args in
    well-past a.words.now a.k a.types.now (search rules) (sym c.at_most.ensures ∙ c.if-not-at_most.false)
    (sym c.at_most-2.ensures ∙ c.if-not-at_most-2.true)

pub returns : goal.returns
returns c =
    let a = c.args in
    c.flag_fits.ensures
    ∙ well-flag a.words.now a.k a.types.now (search rules) (sym c.at_most.ensures ∙ c.if-not-at_most.false)
    (sym c.at_most-2.ensures ∙ c.if-not-at_most-2.false)
