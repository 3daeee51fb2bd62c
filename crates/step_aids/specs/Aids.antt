-- What is laid on a tape besides the model, and that the model stays.
use Rattle.std.specs.Prelude.{ℕ, ◌≡◌, List, take}
use Rattle.layout.specs.declared.Plan.{Plan}
use Rattle.layout.specs.Plans.{model_on, Planned}
use Rattle.step_once.specs.Choosing.{RankedOn}
use Rattle.step_run.specs.Aided.{Aided}

-- ---- the order (the chains are `step_chains`'): it stands in its place, and what stood before it is as it was

pub record OrderLaid (p : Plan) (before after : List ℕ) : Type 0 where
  pub below : take p.order after ≡ take p.order before
  pub order : RankedOn p after

-- ---- both: the tape means the model that it meant, and has what a run keeps besides

pub record AidsLaid (p : Plan) (before after : List ℕ) : Type 0 where
  pub planned : Planned p after
  pub same : model_on p after ≡ model_on p before
  pub aided : Aided p after
