-- What is gathered from the sets, and what one rule that lies down or joins the testers leaves of them.
use Rattle.std.specs.Prelude.{ℕ, ◌+◌, ◌*◌, ◌≤◌, ◌<◌, ◌≡◌, true, false, List, length}
use Rattle.meaning.specs.Base.{bit}
use Rattle.match_sets.specs.Sets.{has}
use Rattle.match_beds.specs.Beds.{is_awake, is_used, tests, in_bed, bed_of}

-- a marked buffer, of the first b, that rule i of word w tests or queries
pub record Touch (sets : List ℕ) (w mark b i : ℕ) : Type 0 where
  pub buffer : ℕ
  pub below : buffer < b
  pub low : buffer < 8
  pub marked : bit mark buffer ≡ true
  pub tested : has sets (8 + 8 * w + buffer) i ≡ true

-- the bits of r are those of the testers of a marked buffer, of the first b
pub record Touches (sets : List ℕ) (w mark b r : ℕ) : Type 0 where
  pub some : (i : ℕ) → bit r i ≡ true → Touch sets w mark b i
  pub all : (i : ℕ) → Touch sets w mark b i → bit r i ≡ true

-- what is the same of all rules but k, and of the words that say who tests what and whose entry is known to be fresh
pub record Besides (k : ℕ) (sets sets' : List ℕ) : Type 0 where
  pub size : length sets' ≡ length sets
  pub testers : (j i : ℕ) → 8 ≤ j → j < 40 → has sets' j i ≡ has sets j i
  pub sure : (j i : ℕ) → 48 ≤ j → j < 52 → has sets' j i ≡ has sets j i
  pub awake : (q : ℕ) → q < 256 → (q ≡ k → ⊥) → is_awake sets' q ≡ is_awake sets q
  pub beds : (h q : ℕ) → h < 256 → q < 256 → in_bed sets h q ≡ true → in_bed sets' h q ≡ true
  pub used : (p : ℕ) → p < 88 → is_used sets p ≡ true → is_used sets' p ≡ true

-- rule k lies in its bed, and the matching rules are as they were
pub record Lain (k place value : ℕ) (sets sets' : List ℕ) : Type 0 where
  pub besides : Besides k sets sets'
  pub hits : (j i : ℕ) → 4 ≤ j → j < 8 → has sets' j i ≡ has sets j i
  pub asleep : is_awake sets' k ≡ false
  pub bed : in_bed sets' (bed_of place value) k ≡ true
  pub down : is_used sets' place ≡ true

-- rule k has joined the testers of the buffers of a mask, of the first i, and nothing else has changed
pub record Joins (k mask i : ℕ) (sets sets' : List ℕ) : Type 0 where
  pub size : length sets' ≡ length sets
  pub joined : (b : ℕ) → b < i → b < 8 → bit mask b ≡ true → tests sets' b k ≡ true
  pub apart : (b : ℕ) → b < 8 → bit mask b ≡ false → tests sets' b k ≡ tests sets b k
  pub others : (b q : ℕ) → b < 8 → q < 256 → (q ≡ k → ⊥) → tests sets' b q ≡ tests sets b q
  pub words : (j i : ℕ) → (8 ≤ j → j < 40 → ⊥) → has sets' j i ≡ has sets j i
