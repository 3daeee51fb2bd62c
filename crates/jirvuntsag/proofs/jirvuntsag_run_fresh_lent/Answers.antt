-- `jirvuntsag::jirvuntsag_run_fresh_lent` meets its contract: the run is of the state that the words gave, and so are the events and the store.
use mathlib.Core.Path.{refl}
use borrow.Author.Rules.{rules}
use Rattle.jirvuntsag.specs.Words.{given_by}
use Rattle.jirvuntsag.proofs.LentLaws.{fresh-lent-near, fresh-lent-led, fresh-lent-events-told}
use Rattle.jirvuntsag.proofs.jirvuntsag_run_fresh_lent.Goals as goal

pub led-requires : goal.led-requires
led-requires c = search (rules, fresh-lent-near)

pub returns : goal.returns
returns c =
    let a = c.args in
    let e = c.led.ensures in (
      fresh-lent-led a.image.now a.state.now a.steps a.lent a.store.now e.0 c.led.result c.led.new.words _ e.3 e.2 (search rules) (search rules) (search rules),
      fresh-lent-events-told a.image.now a.state.now a.steps a.lent a.store.now (given_by a.state.now) a.events.now _ refl (search rules),
    )
