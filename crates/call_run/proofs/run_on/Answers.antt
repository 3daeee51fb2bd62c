-- `call_run::run_on` meets its contract: refused with nothing done, or what is left to refuse, and the run.
use mathlib.Core.Path.{sym, ap, ◌∙◌, subst}
use Rattle.match_beds.specs.Beds.{Roomy}
use Rattle.layout.specs.declared.Plan.{Plan}
use Rattle.call_run.proofs.RunLaws.{run-refused, run-accepted}
use borrow.Author.Rules.{rules}
use Rattle.call_run.proofs.run_on.Goals as goal

pub returns-in_err-accept : goal.returns-in_err-accept
returns-in_err-accept c =
    let a = c.args in
    run-refused a.asked.now.state a.asked.now.steps a.asked.now.lent a.store.now a.begun.now.image a.table.now a.events.now a.begun.now.plan _ _ c.in_err-accept.ensures.taken c.from_residual.result _ (search rules)

pub run_for-requires : goal.run_for-requires
run_for-requires c =
    let met = c.in_ok-accept.ensures.taken in
    let is = c.plan.ensures.value in
    (search rules, search rules, subst (λ (p : Plan). Roomy p.rules c.args.sets.now) (sym is) c.requires.roomy, c.requires.cleared, ap (λ (p : Plan). p.places) c.plan.ensures.in_bounds.starts, ap (λ (p : Plan). p.learns) is ∙ c.requires.learning)

pub returns : goal.returns
returns c =
    let a = c.args in
    run-accepted a.asked.now.state a.asked.now.steps a.asked.now.lent a.store.now a.begun.now.image a.table.now a.events.now a.begun.now.plan _ _ c.in_ok-accept.ensures.taken _ _ _ _ (search rules)
