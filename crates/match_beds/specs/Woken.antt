-- What waking leaves: those who slept in some beds are awake, all others as they were.
use Rattle.std.specs.Prelude.{ℕ, ◌+◌, ◌*◌, ◌≤◌, ◌<◌, ◌≡◌, ◌⊎◌, true, List, length, get_or}
use Rattle.meaning.specs.Base.{bit}
use Rattle.match_sets.specs.Sets.{has}
use Rattle.match_beds.specs.Beds.{is_awake, is_used, in_bed, bed_of}

-- the rules of the beds that `which` names are awake; all others stay in their beds, or are awake; nobody falls asleep
pub record Woke (n : ℕ) (which : ℕ → ℕ → Type 0) (sets sets' : List ℕ) : Type 0 where
  pub size : length sets' ≡ length sets
  pub kept : (j i : ℕ) → 4 ≤ j → j < 52 → has sets' j i ≡ has sets j i
  pub grows : (k : ℕ) → k < n → is_awake sets k ≡ true → is_awake sets' k ≡ true
  pub stays : (h k : ℕ) → h < 256 → k < n → in_bed sets h k ≡ true → (in_bed sets' h k ≡ true) ⊎ (is_awake sets' k ≡ true)
  pub wakes : (h k : ℕ) → h < 256 → k < n → which h k → in_bed sets h k ≡ true → is_awake sets' k ≡ true

-- buffer b is visible, and bed h is the one of a used place of it, of the first i, for the value that stands there
pub record Called (state sets : List ℕ) (b i h : ℕ) : Type 0 where
  pub at : ℕ
  pub below : at < i
  pub low : at < 11
  pub used : is_used sets (11 * b + at) ≡ true
  pub visible : get_or state (11 * b + 9) 0 ≡ 0
  pub is : h ≡ bed_of (11 * b + at) (get_or state (11 * b + at) 0)

-- the same of a marked buffer, of the first b
pub record CalledBy (state sets : List ℕ) (mark b h : ℕ) : Type 0 where
  pub buffer : ℕ
  pub below : buffer < b
  pub low : buffer < 8
  pub marked : bit mark buffer ≡ true
  pub called : Called state sets buffer 11 h
