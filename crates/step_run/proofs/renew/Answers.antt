-- `step_run::renew` meets its contract: the sections of the tape are handed on as they stand.
use Rattle.layout.specs.Plans.{model_on}
use Rattle.laws.specs.PartLaws.{to_end}
use Rattle.step_run.proofs.renew.Goals as goal

pub returns-clause-by_index : goal.returns-clause-by_index
unfolding model_on
returns-clause-by_index c =
    λ clock. simp to_end at (c.renew.ensures.by_index clock)
