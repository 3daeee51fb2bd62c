-- `jirvuntsag::jirvuntsag_trace` meets its contract: the run is of the state that the words gave, and so are the events.
use mathlib.Core.Path.{refl}
use borrow.Author.Rules.{rules}
use Rattle.jirvuntsag.specs.Words.{given_by}
use Rattle.jirvuntsag.proofs.ToldLaws.{run-near, run-led, events-told}
use Rattle.jirvuntsag.proofs.jirvuntsag_trace.Goals as goal

pub led-requires : goal.led-requires
led-requires c = search (rules, run-near)

pub returns : goal.returns
returns c =
    let a = c.args in
    let e = c.led.ensures in (
      run-led a.image.now a.state.now a.table.now a.steps e.0 c.led.result c.led.new.words _ e.3 e.2 (search rules) (search rules) (search rules),
      events-told a.image.now a.state.now a.table.now a.steps (given_by a.state.now) a.events.now _ refl (search rules),
    )
