-- `actr_lines::put_steps` meets its contract: after each turn one more line stands after those before it.
use mathlib.Core.Path.{refl, ◌∙◌}
use Rattle.actr_lines.proofs.LineLaws.{steps-none, steps_on}
use Rattle.actr_lines.proofs.put_steps.Goals as goal

pub loop-k-init : goal.loop-k-init
loop-k-init c =
    let a = c.args in
    (refl, steps-none a.text.now a.at a.events.now)

pub loop-k-preserved : goal.loop-k-preserved
loop-k-preserved c =
    let l = c.loop-k in
    (c.put_step-end.auto.text ∙ l.invariant.0, steps_on c.args.events.now l.k l.invariant.1 c.put_step-end.ensures)
