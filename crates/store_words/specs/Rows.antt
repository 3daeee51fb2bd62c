-- A place of a store as a row of a tape, and rows laid after those that a plan knows of.
use Rattle.std.specs.Prelude.{ℕ, ◌+◌, ◌*◌, ◌≡◌, Bool, true, List, ◌∷◌, map, length, take, drop}
use Rattle.meaning.specs.Base.{every}
use Rattle.meaning.specs.Model.{Chunk}
use Rattle.meaning.specs.Learning.{learned}
use Rattle.meaning.specs.Store.{place_in, holdable}
use Rattle.layout.specs.declared.Plan.{Plan}
use Rattle.layout.specs.Rows.{rows_in, fact_in}
use Rattle.layout.specs.Plans.{types_on}

-- the row of a learned fact: type, activation 0, latency 50, eight slots
abbrev pub row_words : Chunk → List ℕ
row_words c = c.isa ∷ 0 ∷ 50 ∷ c.slots

-- the first n places of a store stand in rows after the first `own`; what stands below and above them is as it was
pub record RowsLaid (own : ℕ) (tape tape' store : List ℕ) (n : ℕ) : Type 0 where
  pub as_long : length tape' ≡ length tape
  pub below : take (152 + 11 * own) tape' ≡ take (152 + 11 * own) tape
  pub above : drop (152 + 11 * (own + n)) tape' ≡ drop (152 + 11 * (own + n)) tape
  pub laid : rows_in (λ i. fact_in tape' (152 + 11 * own + 11 * i)) 0 n ≡ map learned (rows_in (place_in store) 0 n)

-- the first n places were judged, and laid after the plan's facts if the image could hold each
pub record PlacesMet (r : Bool) (p : Plan) (tape tape' store : List ℕ) (n : ℕ) : Type 0 where
  pub judged : r ≡ every (holdable (types_on p tape)) (rows_in (place_in store) 0 n)
  pub laid : r ≡ true → RowsLaid p.facts tape tape' store n
