-- `step_run::step_and_renew` meets its contract: a step that was made leaves what is kept as a renewal takes it.
use mathlib.Core.Path.{refl, sym, ap, ◌∙◌}
use native.Mathlib.Omega.{arith}
use Rattle.std.specs.Prelude.{Result}
use Rattle.meaning.specs.declared.reasons.Reason.{Reason}
use Rattle.meaning.specs.Choice.{utilities}
use Rattle.layout.specs.StateWords.{state_in}
use Rattle.layout.specs.Plans.{model_on}
use Rattle.match_rest.proofs.KeptLaws.{step_kept}
use Rattle.step_made.specs.declared.Made.{Made}
use Rattle.step_made.specs.Made.{step_in}
use Rattle.step_run.proofs.RunLaws.{made-anyhow}
use Rattle.step_run.proofs.step_and_renew.Goals as goal

pub renew-requires : goal.renew-requires
renew-requires c =
    let a = c.args in
    let m = model_on a.plan a.tape.now in
    let is = sym (ap (λ (x : Result Made Reason). step_in x c.step.new.state a.clock) c.in_ok-made.was) ∙ c.step.ensures.step_met.is_step in
    let anyhow = made-anyhow a.plan a.tape.now (state_in a.state.now a.clock) _ _ _ _ _ refl is in (
      c.requires.0,
      record {
        laid = c.requires.0.laid;
        ranked = c.requires.5;
        entries = c.requires.4;
        buffers = omega (arith, c.step.auto.state, c.requires.2);
        before = a.state.now;
        kept = step_kept m m.facts (utilities m.rules) a.table.now a.state.now c.step.new.state a.clock _ c.in_ok-made.made.mark _ anyhow;
        resting = c.requires.6;
      },
    )
