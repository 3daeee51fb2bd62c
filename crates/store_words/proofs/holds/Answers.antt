-- `store_words::holds` meets its contract: the type, the values and the slots past the count are judged in the order of the definition.
use mathlib.Core.Path.{sym, ◌∙◌}
use Rattle.store_words.proofs.PlaceLaws.{holds-values, holds-past}
use borrow.Author.Rules.{rules}
use Rattle.store_words.proofs.holds.Goals as goal

pub returns-then-not-at_most : goal.returns-then-not-at_most
returns-then-not-at_most c =
    let a = c.args in
    holds-values a.store.now a.i a.types.now (search rules) (search rules) (sym c.at_most.ensures ∙ c.if-not-at_most.true)

pub returns : goal.returns
returns c =
    let a = c.args in
    c.at_most-2.ensures
    ∙ holds-past a.store.now a.i a.types.now (search rules) (search rules) (sym c.at_most.ensures ∙ c.if-not-at_most.false)
