-- A memory that has grown: new facts in rows after the known ones, and in their chains.
use Rattle.std.specs.Prelude.{◌≡◌, List, ℕ, ◌-◌, ◌≤◌, ◌<◌, get_or}
use Rattle.meaning.specs.Model.{Fact}
use Rattle.layout.specs.declared.Plan.{Plan}
use Rattle.layout.specs.Growth.{Extended}
use Rattle.step_retrieve.specs.Chains.{chain_of, ChainsOn}

-- word `at` of the chains is a link of chain h: its start, or the word of one of its facts
pub record Link (facts : List ℕ) (n h at : ℕ) : Type 0 where
  pub start : at < 64 → at ≡ h
  pub known : 64 ≤ at → at - 64 < n
  pub own : 64 ≤ at → chain_of facts (at - 64) ≡ h

-- and the one that names no fact after it
pub record Last (index facts : List ℕ) (n h at : ℕ) : Type 0 where
  pub link : Link facts n h at
  pub ends : n ≤ get_or index at 0

pub record Grown (p : Plan) (tape : List ℕ) (p' : Plan) (tape' : List ℕ) (new : List Fact) : Type 0 where
  pub extended : Extended p tape p' tape' new
  pub chains : ChainsOn p' tape'
