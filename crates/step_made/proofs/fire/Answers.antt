-- `step_made::fire` meets its contract: the actions of the rule on the tape, unless the clock would pass, or after that, what it adds has no place.
use Prim.Native.Nat.{◌*◌, ◌+◌, ◌≤◌}
use mathlib.Core.Path.{◌≡◌, sym, ap, ◌∙◌}
use native.Mathlib.Omega.{arith}
use borrow.Author.Tests.{lt-ltb, le-ltb}
use lib.Dec.{ltb}
use Rattle.std.proofs.lemmas.Result.{err_from_is_err_and}
use Rattle.meaning.specs.Step.{event_fired}
use Rattle.layout.specs.Rows.{rule_in, actions_in}
use Rattle.layout.specs.StateWords.{state_in}
use Rattle.layout.specs.Plans.{heads_on, rows_on}
use Rattle.step_learn.specs.Joins.{no_place}
use Rattle.step_learn.proofs.AddsLaws.{no-place-is}
use Rattle.step_made.proofs.MadeLaws.{past, in-time, full, no_room, fired}
use Rattle.step_made.proofs.fire.Goals as goal
use Rattle.step_made.proofs.fire.Goals.{After-collect-joined}

-- whether what is added has no place
crowded : (c : After-collect-joined) → let a = c.args in no_place a.image.now.plan a.image.now.tape (state_in a.state.now a.clock) (event_fired a.k) ≡ ltb a.image.now.plan.places (a.image.now.plan.facts + c.collect-joined.result)
crowded c =
    let a = c.args in
    no-place-is a.image.now.plan a.image.now.tape a.state.now c.collect-joined.new.news a.clock a.k c.collect-joined.result c.requires.0 c.collect-joined.ensures

pub fire-mark-requires : goal.fire-mark-requires
fire-mark-requires c =
    let planned = rw c.plan-plan.ensures.value at c.plan-plan.ensures.planned in
    (c.requires.1, omega (arith, c.actions-actions.ensures.few, planned.laid.words_room, c.requires.0), c.actions-actions.ensures.few, omega (arith, c.requires.3), c.requires.2)

pub returns-in_err-clock_after-clause-step_met : goal.returns-in_err-clock_after-clause-step_met
returns-in_err-clock_after-clause-step_met c =
    let a = c.args in
    let p = err_from_is_err_and c.from_residual.result c.from_residual.ensures.1 in
    let is = past a.clock 50 _ (sym c.clock_after.ensures ∙ c.in_err-clock_after.was) in
    rw (p.1, p.2, is.0) (full a.image.now.plan a.image.now.tape _ a.k _ a.nine.now a.state.now a.clock is.1)

pub returns-then-plan-joined-clause-step_met : goal.returns-then-plan-joined-clause-step_met
returns-then-plan-joined-clause-step_met c =
    let a = c.args in
    let after = (goal.at.returns-then-plan-joined-clause-step_met c).After-collect-joined in
    let fits = (in-time a.clock 50 _ (sym c.clock_after.ensures ∙ c.in_ok-clock_after.was)).1 in
    no_room a.image.now.plan a.image.now.tape _ a.k _ a.nine.now a.state.now a.clock fits (crowded after ∙ lt-ltb _ _ (rw c.plan-plan.ensures.value at c.if-plan-joined.true))

pub returns-clause-step_met : goal.returns-clause-step_met
returns-clause-step_met c =
    let a = c.args in
    let after = (goal.at.returns-clause-step_met c).After-collect-joined in
    let rule = rule_in (heads_on a.image.now.plan a.image.now.tape) (rows_on a.image.now.plan a.image.now.tape) a.k in
    let actions = ap (actions_in (rows_on a.image.now.plan a.image.now.tape) (185 * a.k + 97)) (sym c.actions-actions.ensures.value) in
    let state = c.fire-mark.ensures.by_index a.clock rule actions in
    let mark = c.fire-mark.ensures.mark a.clock (a.clock + 50) in
    let fits : a.image.now.plan.facts + c.collect-joined.result ≤ a.image.now.plan.places = omega (arith, rw c.plan-plan.ensures.value at c.if-plan-joined.false) in
    let on-time = (in-time a.clock 50 _ (sym c.clock_after.ensures ∙ c.in_ok-clock_after.was)).1 in
    fired a.image.now.plan a.image.now.tape _ a.k rule a.nine.now a.state.now a.clock on-time (crowded after ∙ le-ltb _ _ fits) _ _ _ state (rw (← actions) at mark)
