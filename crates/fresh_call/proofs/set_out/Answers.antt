-- `fresh_call::set_out` meets its contract: the chains are laid, and the model that stands on the tape runs.
use mathlib.Core.Path.{◌∙◌}
use Rattle.step_chains.proofs.ChainLaws.{planned-chained, model-chained}
use Rattle.fresh_call.proofs.set_out.Goals as goal

pub advance-requires : goal.advance-requires
advance-requires c =
    (planned-chained c.args.plan c.args.tape.now _ c.requires.0 c.lay_chains.ensures c.lay_chains.auto.tape, c.requires.1, c.lay_chains.ensures.chains)

pub returns-clause-went_met : goal.returns-clause-went_met
returns-clause-went_met c =
    let same = model-chained c.args.plan c.args.tape.now _ c.requires.0 c.lay_chains.ensures c.lay_chains.auto.tape in
    λ m store knows. c.advance.ensures.went_met m store (record { means = same ∙ knows.means; lends = knows.lends; places = knows.places })
