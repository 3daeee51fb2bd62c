-- The words of 64 bits in which a run keeps sets of its rules: which are awake, which match, which test or query a buffer,
-- and the beds in which rules sleep that were given up at a word of the state.
use Rattle.std.specs.Prelude.{ℕ, ◌+◌, ◌*◌, ◌/◌, ◌%◌, ◌≤◌, ◌<◌, ◌≡◌, Bool, true, false, List, length, get_or}
use Rattle.meaning.specs.Base.{bit}
use Rattle.match_sets.specs.Sets.{has, member}

-- ---- the words: 0 to 3 the awake rules, 4 to 7 the matching ones, 8 to 39 the testers, 40 to 47 the used places, 48 to 51 the rules whose entry is known to be fresh,
-- from 52 on the beds

abbrev pub is_awake : List ℕ → ℕ → Bool
is_awake sets k = has sets (k / 64) (k % 64)

-- rule k tests or queries buffer b
abbrev pub tests : List ℕ → ℕ → ℕ → Bool
tests sets b k = has sets (8 + 8 * (k / 64) + b) (k % 64)

-- some rule has slept by that word of the state
abbrev pub is_used : List ℕ → ℕ → Bool
is_used sets place = has sets (40 + place / 11) (place % 11)

-- rule k sleeps in bed h
abbrev pub in_bed : List ℕ → ℕ → ℕ → Bool
in_bed sets h k = has sets (52 + 256 * (k / 64) + h) (k % 64)

-- the entry of rule k is known to be fresh, since a step of this call marked a buffer that it tests or queries
abbrev pub is_sure : List ℕ → ℕ → Bool
is_sure sets k = member sets 48 k

-- the bed for a word of the state and the value wanted there; any number below 256 would do
abbrev pub bed_of : ℕ → ℕ → ℕ
bed_of place value = (value + 75 * place) % 256

-- ---- what holds of these words

-- the testers are those that the masks of the rules say
pub record Testing (heads : List ℕ) (n : ℕ) (sets : List ℕ) : Type 0 where
  pub all : (b k : ℕ) → b < 8 → k < n → tests sets b k ≡ bit (get_or heads (4 * k + 3) 0) b
  pub only : (b k : ℕ) → b < 8 → k < 256 → tests sets b k ≡ true → k < n

-- there are words for all of it
pub record Roomy (n : ℕ) (sets : List ℕ) : Type 0 where
  pub few : n ≤ 256
  pub least : 308 ≤ length sets
  pub beds : (k : ℕ) → k < n → 308 + 256 * (k / 64) ≤ length sets

-- no bit is set
abbrev pub Cleared : List ℕ → Type 0
Cleared sets = (j i : ℕ) → has sets j i ≡ false
