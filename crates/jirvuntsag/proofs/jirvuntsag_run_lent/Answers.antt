-- `jirvuntsag::jirvuntsag_run_lent` meets its contract: the run is of the state that the words gave, and so are the events and the store.
use mathlib.Core.Path.{refl}
use borrow.Author.Rules.{rules}
use Rattle.jirvuntsag.specs.Words.{given_by}
use Rattle.jirvuntsag.proofs.LentLaws.{lent-near, lent-led, lent-events-told}
use Rattle.jirvuntsag.proofs.jirvuntsag_run_lent.Goals as goal

pub led-requires : goal.led-requires
led-requires c = search (rules, lent-near)

pub returns : goal.returns
returns c =
    let a = c.args in
    let e = c.led.ensures in (
      lent-led a.image.now a.state.now a.table.now a.steps a.lent a.store.now e.0 c.led.result c.led.new.words _ _ e.3 e.2 (search rules) (search rules) (search rules) (search rules),
      lent-events-told a.image.now a.state.now a.table.now a.steps a.lent a.store.now (given_by a.state.now) a.events.now _ refl (search rules),
    )
