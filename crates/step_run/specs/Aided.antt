-- What a run lays out besides the model, so that its steps have less to look at, and what it keeps of its rules between two steps.
use Rattle.std.specs.Prelude.{List, ℕ}
use Rattle.layout.specs.declared.Plan.{Plan}
use Rattle.layout.specs.Plans.{heads_on, rows_on, order_on}
use Rattle.match_rest.specs.Rest.{Resting, Stepped}
use Rattle.step_retrieve.specs.Chains.{ChainsOn}
use Rattle.step_once.specs.Choosing.{RankedOn}

-- the chains of the facts and the order of the rules stand in the tape's sections for them
pub record Aided (p : Plan) (tape : List ℕ) : Type 0 where
  pub chains : ChainsOn p tape
  pub order : RankedOn p tape

-- what holds between two steps, and after a step with that mark, of the rules on a tape
abbrev pub RestingOn : Plan → List ℕ → List ℕ → List ℕ → List ℕ → Type 0
RestingOn p tape state table sets = Resting (heads_on p tape) (rows_on p tape) (order_on p tape) p.rules state table sets

abbrev pub SteppedOn : Plan → List ℕ → List ℕ → ℕ → List ℕ → List ℕ → Type 0
SteppedOn p tape state mark table sets = Stepped (heads_on p tape) (rows_on p tape) (order_on p tape) p.rules state mark table sets
