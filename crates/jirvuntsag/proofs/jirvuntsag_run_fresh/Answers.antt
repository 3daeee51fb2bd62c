-- `jirvuntsag::jirvuntsag_run_fresh` meets its contract: the run is of the state that the words gave, and the words stay if they gave none.
use borrow.Author.Rules.{rules}
use Rattle.jirvuntsag.proofs.FreshLaws.{fresh-near, fresh-led}
use Rattle.jirvuntsag.proofs.jirvuntsag_run_fresh.Goals as goal

pub led-requires : goal.led-requires
led-requires c = search (rules, fresh-near)

pub returns : goal.returns
returns c =
    let a = c.args in
    let e = c.led.ensures in
    fresh-led a.image.now a.state.now a.steps e.0 c.led.result c.led.new.words e.3 e.2 (search rules) (search rules)
