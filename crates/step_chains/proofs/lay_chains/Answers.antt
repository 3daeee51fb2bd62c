-- `step_chains::lay_chains` meets its contract: the chains are laid between the facts and the heads.
use mathlib.Core.Path.{refl}
use Rattle.std.proofs.Common.{rules}
use Rattle.laws.specs.PartLaws.{to_end}
use Rattle.step_chains.proofs.ChainLaws.{chains-laid}
use Rattle.step_chains.proofs.lay_chains.Goals as goal

pub returns : goal.returns
returns c =
    let parts = c.split_at_mut-front.ensures in
    chains-laid c.args.plan c.args.tape.now _ c.requires _ _ _ parts.value parts.front_len (search rules) (simp to_end at c.chain.ensures) refl
