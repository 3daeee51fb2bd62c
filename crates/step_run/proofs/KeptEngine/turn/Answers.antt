-- The engine with a table meets what a run asks: what its step comes to is what the run goes on from.
use Rattle.step_run.proofs.RunLaws.{stays, kept, moves}
use Rattle.step_run.proofs.KeptEngine.turn.Goals as goal

pub returns-clause-stays : goal.returns-clause-stays
returns-clause-stays c =
    let a = c.args in
    stays a.plan a.tape.now c.requires.0 a.state.now a.self.now.table.now a.clock c.step_and_renew.new.state c.step_and_renew.new.table _ c.step_and_renew.ensures.step_met

pub returns-clause-kept : goal.returns-clause-kept
returns-clause-kept c =
    let a = c.args in
    kept a.plan a.tape.now c.requires.0 a.state.now a.self.now.table.now a.clock c.step_and_renew.new.state c.step_and_renew.new.table _ c.step_and_renew.ensures.step_met c.step_and_renew.ensures.kept

pub returns-clause-moves : goal.returns-clause-moves
returns-clause-moves c =
    let a = c.args in
    moves a.plan a.tape.now c.requires.0 a.state.now a.self.now.table.now a.clock c.step_and_renew.new.state c.step_and_renew.new.table _ c.step_and_renew.ensures.step_met
    c.step_and_renew.new.news c.step_and_renew.ensures.joins c.step_and_renew.ensures.renewed
