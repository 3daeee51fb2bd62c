-- `store_words::load` meets its contract: the length and the count are judged, then the places are, and laid.
use mathlib.Core.Path.{refl}
use Rattle.store_words.proofs.LoadLaws.{load-long, load_many, load-bad, load-met}
use borrow.Author.Rules.{rules}
use Rattle.store_words.proofs.load.Goals as goal

pub returns-then-store-ne-STORE_WORDS : goal.returns-then-store-ne-STORE_WORDS
returns-then-store-ne-STORE_WORDS c =
    let a = c.args in
    load-long a.plan a.tape.now a.store.now _ (λ e. search rules)

pub returns-then-n-gt-STORE_PLACES : goal.returns-then-n-gt-STORE_PLACES
returns-then-n-gt-STORE_PLACES c =
    let a = c.args in
    load_many a.plan a.tape.now a.store.now (search rules) _ (search rules)

pub returns-in_err-lay_places : goal.returns-in_err-lay_places
returns-in_err-lay_places c =
    let a = c.args in
    load-bad a.plan a.tape.now a.store.now (search rules) (search rules) _ _ c.in_err-lay_places.ensures.places refl _ (search rules)

pub returns : goal.returns
returns c =
    let a = c.args in
    load-met a.plan a.tape.now a.store.now (search rules) (search rules) _ _ c.in_ok-lay_places.ensures.places c.requires.0 c.requires.1 refl
