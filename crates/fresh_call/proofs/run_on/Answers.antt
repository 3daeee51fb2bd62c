-- `fresh_call::run_on` meets its contract: refused with nothing done, or what is left to refuse, and the run.
use mathlib.Core.Path.{ap, ◌∙◌}
use Rattle.layout.specs.declared.Plan.{Plan}
use Rattle.fresh_call.proofs.CallLaws.{fresh-refused, fresh-accepted}
use borrow.Author.Rules.{rules}
use Rattle.fresh_call.proofs.run_on.Goals as goal

pub returns-in_err-lay_out : goal.returns-in_err-lay_out
returns-in_err-lay_out c =
    let a = c.args in
    fresh-refused a.asked.now.state a.asked.now.steps a.asked.now.lent a.store.now a.begun.now.image a.events.now _ c.in_err-lay_out.ensures.laid_out.reads c.from_residual.result (search rules)

pub run_for-requires : goal.run_for-requires
run_for-requires c =
    (search rules, ap (λ (p : Plan). p.places) c.plan.ensures.in_bounds.starts, ap (λ (p : Plan). p.learns) c.plan.ensures.value ∙ c.requires.learning)

pub returns : goal.returns
returns c =
    let a = c.args in
    fresh-accepted a.asked.now.state a.asked.now.steps a.asked.now.lent a.store.now a.begun.now.image a.events.now _ _ c.in_ok-lay_out.ensures.laid_out.reads _ _ _ (search rules)
