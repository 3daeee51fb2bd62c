-- A plan and a tape, and the model that they mean. Every plan and every tape mean some model, so that whoever reads them needs no fact that they are valid.
use Rattle.std.specs.Prelude.{if◌then◌else◌, ℕ, ◌+◌, ◌*◌, ◌≤◌, ◌≡◌, Bool, List, map, length, take, drop}
use Rattle.meaning.specs.Model.{Model, Chunk, Fact, Rule}
use Rattle.meaning.specs.Learning.{chunk_of}
use Rattle.meaning.specs.Calls.{open_state}
use Rattle.layout.specs.Walks.{Small}
use Rattle.layout.specs.Rows.{facts_in, rules_in, Laid}
use Rattle.layout.specs.StateWords.{buffers_in, state_in}
use Rattle.layout.specs.declared.Plan.{Plan}

-- the places for facts where an image has so many: as many; and the 256 of a store, where one is lent
abbrev pub places_for : ℕ → Bool → ℕ
places_for facts learns = if learns then facts + 256 else facts

-- the sections one after the other: 64 slot counts, 88 words of the opening state, a row for each place of a fact; 64 chains with a word for each place,
-- which a run lays; a head for each rule, and its sixteen rows and its queries; and two words a rule for the order of rules, which a run lays too
abbrev pub plan_of : ℕ → ℕ → ℕ → ℕ → ℕ → ℕ → ℕ → Bool → Plan
plan_of version buffers declared rules facts failure places learns =
    record {
      version = version;
      buffers = buffers;
      declared = declared;
      rules = rules;
      facts = facts;
      failure = failure;
      places = places;
      learns = learns;
      chains = 152 + 11 * places;
      heads = 152 + 11 * places + 64 + places;
      rows = 152 + 11 * places + 64 + places + 4 * rules;
      order = 152 + 11 * places + 64 + places + 4 * rules + 185 * rules;
      end = 152 + 11 * places + 64 + places + 4 * rules + 185 * rules + 2 * rules;
    }

-- ---- the model that stands on a tape

-- the slot count of each type from 0 to T
abbrev pub types_on : Plan → List ℕ → List ℕ
types_on p tape = take (p.declared + 1) tape

abbrev pub opening_on : Plan → List ℕ → List Chunk
opening_on p tape = map chunk_of (take p.buffers (buffers_in (drop 64 tape)))

abbrev pub facts_on : Plan → List ℕ → List Fact
facts_on p tape = facts_in (drop 152 tape) p.facts

abbrev pub heads_on : Plan → List ℕ → List ℕ
heads_on p tape = drop p.heads tape

abbrev pub rows_on : Plan → List ℕ → List ℕ
rows_on p tape = drop p.rows tape

-- what a run lays there besides: the order of the rules
abbrev pub order_on : Plan → List ℕ → List ℕ
order_on p tape = drop p.order tape

abbrev pub rules_on : Plan → List ℕ → List Rule
rules_on p tape = rules_in (heads_on p tape) (rows_on p tape) p.rules

unfoldable pub model_on : Plan → List ℕ → Model
model_on p tape =
    record {
      buffers = p.buffers;
      types = types_on p tape;
      failure = p.failure;
      opening = opening_on p tape;
      facts = facts_on p tape;
      rules = rules_on p tape;
    }

-- ---- what holds of a plan and a tape on which an accepted image was laid out

pub record Planned (p : Plan) (tape : List ℕ) : Type 0 where
  -- the sections follow each other, and the tape has room for them
  pub starts : p ≡ plan_of p.version p.buffers p.declared p.rules p.facts p.failure p.places p.learns
  pub room : p.end ≤ length tape
  -- the counts are those that an image and a store may have
  pub some_buffers : 1 ≤ p.buffers
  pub most_buffers : p.buffers ≤ 8
  pub most_declared : p.declared ≤ 63
  pub facts_placed : p.facts ≤ p.places
  pub most_places : p.places ≤ 768
  -- no type has more than eight slots
  pub small : Small (types_on p tape)
  -- the rules stand in heads and rows
  pub laid : Laid (heads_on p tape) (rows_on p tape) p.rules
  -- the opening section is the opening state
  pub opens : state_in (drop 64 tape) 0 ≡ open_state (model_on p tape)
