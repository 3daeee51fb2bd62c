-- What stands on a tape by a plan, as one value of the code says.
use Rattle.std.specs.Prelude.{ℕ, List, drop}
use Rattle.layout.specs.declared.Plan.{Plan}

pub record Laying : Type 0 where
  pub plan : Plan
  pub tape : List ℕ

-- the chains of the facts, which a run lays
abbrev pub chains_on : Plan → List ℕ → List ℕ
chains_on p tape = drop p.chains tape

-- the words of a rule: those among which they stand, where they begin, and how many tests there are
pub record Standing : Type 0 where
  pub words : List ℕ
  pub at : ℕ
  pub tests : ℕ
