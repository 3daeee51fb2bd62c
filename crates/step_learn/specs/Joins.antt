-- What the firing of a rule would add to the store, read off a tape and a state in words; and the same as rows of facts.
use Rattle.std.specs.Prelude.{if◌then◌else◌, ℕ, ◌+◌, ◌≤◌, ◌≡◌, Bool, List, [], map, ltb, length}
use Rattle.meaning.specs.declared.State.{State}
use Rattle.meaning.specs.Model.{Chunk}
use Rattle.meaning.specs.Step.{Event}
use Rattle.meaning.specs.Learning.{learned, chunks_of, cleared, joining, adds}
use Rattle.layout.specs.declared.Plan.{Plan}
use Rattle.layout.specs.Rows.{rule_in, facts_in}
use Rattle.layout.specs.StateWords.{buffers_in}
use Rattle.layout.specs.Plans.{facts_on, heads_on, rows_on, model_on}

-- nothing where no store is lent
abbrev pub joins_on : Plan → List ℕ → List ℕ → ℕ → List Chunk
joins_on p tape state k =
    if p.learns then joining (chunks_of (facts_on p tape)) (cleared (rule_in (heads_on p tape) (rows_on p tape) k).actions 0 (buffers_in state)) else []

-- what a step adds where a store is lent, by the model that the tape means; and whether that has no place
abbrev pub adds_on : Plan → List ℕ → State → Event → List Chunk
adds_on p tape s e = if p.learns then adds (model_on p tape) s e else []

abbrev pub no_place : Plan → List ℕ → State → Event → Bool
no_place p tape s e = ltb p.places (p.facts + length (adds_on p tape s e))

-- the first n of eight rows are these chunks, as the store's facts
pub record Collected (news : List ℕ) (n : ℕ) (chunks : List Chunk) : Type 0 where
  pub few : n ≤ 8
  pub rows : facts_in news n ≡ map learned chunks
