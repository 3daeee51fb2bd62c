-- `jirvuntsag::jirvuntsag_trace_fresh` meets its contract: the run is of the state that the words gave, and so are the events.
use mathlib.Core.Path.{refl}
use borrow.Author.Rules.{rules}
use Rattle.jirvuntsag.specs.Words.{given_by}
use Rattle.jirvuntsag.proofs.FreshLaws.{fresh-near, fresh-led, fresh-events-told}
use Rattle.jirvuntsag.proofs.jirvuntsag_trace_fresh.Goals as goal

pub led-requires : goal.led-requires
led-requires c = search (rules, fresh-near)

pub returns : goal.returns
returns c =
    let a = c.args in
    let e = c.led.ensures in (
      fresh-led a.image.now a.state.now a.steps e.0 c.led.result c.led.new.words e.3 e.2 (search rules) (search rules),
      fresh-events-told a.image.now a.state.now a.steps (given_by a.state.now) a.events.now _ refl (search rules),
    )
