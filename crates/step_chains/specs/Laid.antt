-- What is laid on a tape between the facts of a model and the heads of its rules: the chains of its facts. All else is as it was.
use Rattle.std.specs.Prelude.{◌≡◌, List, ℕ, take, drop}
use Rattle.layout.specs.declared.Plan.{Plan}
use Rattle.step_retrieve.specs.Chains.{ChainsOn}

pub record ChainsLaid (p : Plan) (before after : List ℕ) : Type 0 where
  pub below : take p.chains after ≡ take p.chains before
  pub above : drop p.heads after ≡ drop p.heads before
  pub chains : ChainsOn p after
