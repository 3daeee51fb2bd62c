-- What the fetch of a field answers: the number and value for each case (docs/NUMBERS.md).
use Rattle.std.specs.Prelude.{Option, Some, None, ◌≡◌, List, ℕ, ◌+◌}
use Rattle.meaning.specs.Numbers.{not_there}
use Rattle.meaning.specs.Read.{Read, read_refused, read_got, field}
use Rattle.meaning.specs.Image.{anything}

-- `None` stands for number 2, "a field is not wholly there", at the field's first bit; `Some` for the value, and the bit after it
abbrev pub fetched : Option ℕ → ℕ → ℕ → Read ℕ
fetched (Some v) at width = read_got v (at + width)
fetched None at width = read_refused not_there at

-- what a fetch must answer: what the definition reads there, whatever the value
abbrev pub FetchMet : Option ℕ → List ℕ → ℕ → ℕ → Type 0
FetchMet r image at width = fetched r at width ≡ field width anything image at
