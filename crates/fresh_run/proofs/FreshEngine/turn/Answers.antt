-- The engine without a table meets what a run asks: what its step comes to is what the run goes on from.
use Rattle.fresh_run.proofs.RunLaws.{stops, kept, goes-on}
use Rattle.fresh_run.proofs.FreshEngine.turn.Goals as goal

pub returns-clause-stays : goal.returns-clause-stays
returns-clause-stays c =
    let a = c.args in
    stops a.plan a.tape.now c.requires.0 a.state.now a.clock c.step.new.state _ (rw c.new.ensures at c.step.ensures.move_met)

pub returns-clause-kept : goal.returns-clause-kept
returns-clause-kept c =
    let a = c.args in
    kept a.plan a.tape.now c.requires.0 a.state.now a.clock c.step.new.state _ (rw c.new.ensures at c.step.ensures.move_met)

pub returns-clause-moves : goal.returns-clause-moves
returns-clause-moves c =
    let a = c.args in
    goes-on a.plan a.tape.now c.requires.0 a.state.now a.clock c.step.new.state _ (rw c.new.ensures at c.step.ensures.move_met) c.step.new.news (rw c.new.ensures at c.step.ensures.adds)
