-- Plan and tape as a memory: the model of an image, and after its facts those of a store, if one is lent.
use Rattle.std.specs.Prelude.{ℕ, ◌+◌, ◌≡◌, List, length}
use Rattle.std.proofs.Math.Option.{Option, some}
use Rattle.meaning.specs.Model.{Model, Chunk}
use Rattle.meaning.specs.Mark.{is_some}
use Rattle.meaning.specs.Learning.{knowing}
use Rattle.layout.specs.declared.Plan.{Plan}
use Rattle.layout.specs.Plans.{model_on}

-- there are 256 places for the facts of a store, those that it has among them
pub record Knows (p : Plan) (tape : List ℕ) (m : Model) (store : Option (List Chunk)) : Type 0 where
  pub means : model_on p tape ≡ knowing m store
  pub lends : p.learns ≡ is_some store
  pub places : (cs : List Chunk) → store ≡ some cs → p.places + length cs ≡ p.facts + 256

-- what a run answers, and the store that it leaves
pub record Stored (A : Type 0) : Type 0 where
  pub answer : A
  pub store : Option (List Chunk)
