-- What a visit to a rule leaves of the sets.
use Rattle.std.specs.Prelude.{ℕ, ◌+◌, ◌-◌, ◌*◌, ◌/◌, ◌≤◌, ◌<◌, ◌≡◌, ◌⊎◌, true, List, eqb, length, get_or}
use Rattle.meaning.specs.Base.{bit}
use Rattle.meaning.specs.Match.{entry_of}
use Rattle.layout.specs.Rows.{rule_in}
use Rattle.layout.specs.StateWords.{state_in}
use Rattle.match_order.specs.Order.{Ranked, Hitting, place_of}
use Rattle.match_table.specs.Entries.{with_entry}
use Rattle.match_sets.specs.Sets.{has, member}
use Rattle.match_rule.specs.declared.Tried.{Tried}
use Rattle.match_rule.specs.declared.Tried.TheVariants.{Hit, Differs, Varies}
use Rattle.match_rule.specs.Shut.{is_hit}
use Rattle.match_beds.specs.Beds.{is_awake, is_used, in_bed, bed_of}
use Rattle.match_beds.specs.Moves.{Besides}
use Rattle.match_rest.specs.Rest.{entry_at, Asleep, Sleeping}

abbrev pub LowPlace : Tried → Type 0
LowPlace Hit = Unit {0}
LowPlace (Differs place value) = place < 88
LowPlace Varies = Unit {0}

-- rule k lies in its bed, or is as awake as it was
abbrev pub Lies : Tried → ℕ → List ℕ → List ℕ → Type 0
Lies Hit k sets sets' = is_awake sets' k ≡ is_awake sets k
Lies (Differs place value) k sets sets' = (in_bed sets' (bed_of place value) k ≡ true) × (is_used sets' place ≡ true)
Lies Varies k sets sets' = is_awake sets' k ≡ is_awake sets k

pub record Settled (tried : Tried) (k at : ℕ) (sets sets' : List ℕ) : Type 0 where
  pub besides : Besides k sets sets'
  pub others : (p : ℕ) → p < 256 → (p ≡ at → ⊥) → member sets' 4 p ≡ member sets 4 p
  pub own : member sets' 4 at ≡ is_hit tried
  pub lies : Lies tried k sets sets'

-- ---- one rule, and the rules of a word

-- there is room for rule k, and its place in the order is one
pub record Visitable (heads words order : List ℕ) (entries sets k : ℕ) : Type 0 where
  pub few : k < 256
  pub head : 4 * k + 4 ≤ length heads
  pub tests : get_or heads (4 * k) 0 ≤ 8
  pub queries : get_or words (185 * k + 88) 0 ≤ 8
  pub rows : 185 * k + 185 ≤ length words
  pub entry : 9 * k + 9 ≤ entries
  pub bed : 308 + 256 * (k / 64) ≤ sets
  pub ordered : 2 * k + 2 ≤ length order
  pub place : place_of order k < 256

-- the entry of rule k is fresh, its place is in the set of the matching ones exactly if it matches, and it sleeps, or is as awake as it was
pub record Visited (heads words order state : List ℕ) (k : ℕ) (table table' sets sets' : List ℕ) : Type 0 where
  pub fresh : (clock : ℕ) → table' ≡ with_entry table k (entry_of (rule_in heads words k) (state_in state clock))
  pub besides : Besides k sets sets'
  pub others : (p : ℕ) → p < 256 → (p ≡ place_of order k → ⊥) → member sets' 4 p ≡ member sets 4 p
  pub own : member sets' 4 (place_of order k) ≡ eqb (get_or table' (9 * k) 0) 1
  pub rests : (is_awake sets' k ≡ is_awake sets k) ⊎ Asleep heads words state table' sets' k

-- rule q is one of the first i of a word, and in the set
pub record Among (w todo i q : ℕ) : Type 0 where
  pub from : 64 * w ≤ q
  pub below : q < 64 * w + i
  pub chosen : bit todo (q - 64 * w) ≡ true

-- the rules of the set among the first i of word w have been visited, and no others
pub record VisitedAll (heads words order state : List ℕ) (w todo i : ℕ) (table table' sets sets' : List ℕ) : Type 0 where
  pub entries : length table' ≡ length table
  pub size : length sets' ≡ length sets
  pub testers : (j b : ℕ) → 8 ≤ j → j < 40 → has sets' j b ≡ has sets j b
  pub sure : (j b : ℕ) → 48 ≤ j → j < 52 → has sets' j b ≡ has sets j b
  pub awake : (q : ℕ) → q < 256 → (Among w todo i q → ⊥) → is_awake sets' q ≡ is_awake sets q
  pub made : (q : ℕ) → Among w todo i q → (clock : ℕ) → entry_at table' q ≡ entry_of (rule_in heads words q) (state_in state clock)
  pub left : (q : ℕ) → (Among w todo i q → ⊥) → entry_at table' q ≡ entry_at table q
  pub rests : (n : ℕ) → length table ≡ 9 * n → Ranked heads order n → ((q : ℕ) → Among w todo 64 q → (q < n) × (is_awake sets q ≡ true))
      → Hitting table order sets n × Sleeping heads words n state table sets → Hitting table' order sets' n × Sleeping heads words n state table' sets'
