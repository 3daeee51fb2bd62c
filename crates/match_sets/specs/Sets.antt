-- A set in words of 64 bits: number k is in it if bit k % 64 of word k / 64 is set, counted from the word at which the set starts.
use Rattle.std.specs.Prelude.{ℕ, ◌+◌, ◌/◌, ◌%◌, ◌<◌, ◌≡◌, Bool, true, false, ◌&&◌, not, List, eqb, get_or}
use Rattle.meaning.specs.Base.{bit}

-- bit i of word j
abbrev pub has : List ℕ → ℕ → ℕ → Bool
has sets j i = bit (get_or sets j 0) i

-- number k is in the set that starts at word `at`
abbrev pub member : List ℕ → ℕ → ℕ → Bool
member sets at k = has sets (at + k / 64) (k % 64)

-- y is x without its lowest bit, which is bit z if there is none below it
abbrev pub Dropped : ℕ → ℕ → Type 0
Dropped x y = (z j : ℕ) → bit x z ≡ true → ((i : ℕ) → i < z → bit x i ≡ false) → bit y j ≡ (bit x j && not (eqb j z))
