-- `step_made::wait` meets its contract: the soonest delay is waited for, if there is one and the clock has room.
use Rattle.std.proofs.Common.{◌∙◌, sym}
use Rattle.std.proofs.lemmas.Result.{err_from_is_err_and}
use Rattle.step_made.proofs.MadeLaws.{past, wait-full}
use Rattle.step_made.proofs.wait.Goals as goal

-- a clock that is refused would pass its limit,
-- and nothing is written before it is looked at
pub returns-in_err-clock_after-clause-step_met : goal.returns-in_err-clock_after-clause-step_met
returns-in_err-clock_after-clause-step_met c =
    let a = c.args in
    let p = err_from_is_err_and c.from_residual.result c.from_residual.ensures.1 in
    let full = past a.clock c.soonest-ms.result _ (sym c.clock_after.ensures ∙ c.in_err-clock_after.was) in
    rw (p.1, p.2, full.0) (wait-full a.state.now a.clock c.soonest-ms.result c.soonest-ms.ensures c.if-ms-eq0.false full.1)
