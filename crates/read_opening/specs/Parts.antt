-- A header out of its parts, the bounds of its counts, what is promised of its plan, and the state of opening chunks.
use Rattle.std.specs.Prelude.{ℕ, ◌-◌, ◌≤◌, ◌≡◌, Bool, List, ◌++◌, map, replicate}
use Rattle.meaning.specs.declared.State.{State}
use Rattle.meaning.specs.Model.{Chunk}
use Rattle.meaning.specs.State.{nil_after, opens}
use Rattle.meaning.specs.Image.{Header}
use Rattle.layout.specs.declared.Plan.{Plan}
use Rattle.layout.specs.Plans.{places_for, plan_of}

abbrev pub a_header : ℕ → ℕ → ℕ → ℕ → ℕ → ℕ → Header
a_header version buffers declared rules facts failure = record { version = version; buffers = buffers; declared = declared; rules = rules; facts = facts; failure = failure }

-- 1 to 8 buffers, and at most 63 declared types, 256 rules and 512 facts
pub record Bounds (buffers declared rules facts : ℕ) : Type 0 where
  pub some_buffers : 1 ≤ buffers
  pub most_buffers : buffers ≤ 8
  pub most_declared : declared ≤ 63
  pub most_rules : rules ≤ 256
  pub most_facts : facts ≤ 512

-- the header that a plan is made for
abbrev pub header_in : Plan → Header
header_in p = a_header p.version p.buffers p.declared p.rules p.facts p.failure

-- a plan whose sections follow each other, with a place for each of its facts, and for a store's if one is lent
abbrev pub Placed : Plan → Type 0
Placed p = p ≡ plan_of p.version p.buffers p.declared p.rules p.facts p.failure (places_for p.facts p.learns) p.learns

-- the plan of a header that was read: its sections one after the other, its counts within their bounds, with a store if one is lent
pub record HeaderMet (p : Plan) (learns : Bool) : Type 0 where
  pub starts : Placed p
  pub bounds : Bounds p.buffers p.declared p.rules p.facts
  pub learning : p.learns ≡ learns

-- n opening chunks in the first n buffers, nil in the others, and clock 0
abbrev pub opening_state : ℕ → List Chunk → State
opening_state n chunks = record { buffers = map opens chunks ++ replicate (8 - n) (nil_after 0); clock = 0 }
