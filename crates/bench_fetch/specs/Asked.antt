-- What the fetches that are timed answer, whatever they are asked: one definition for both, so that they answer the same.
use Rattle.std.specs.Prelude.{if◌then◌else◌, ℕ, ◌^◌, Bool, ◌&&◌, List, leb, length}
use Rattle.meaning.specs.Read.{Read, read_refused, read_got, field}
use Rattle.meaning.specs.Image.{anything}

-- what a fetch may be asked for: 1 to 16 bits, at a bit up to 2 to the power 32, of at most 65,536 bytes
abbrev pub in_bounds : List ℕ → ℕ → ℕ → Bool
in_bounds image at width = leb 1 width && leb width 16 && leb at (2 ^ 32) && leb (length image) 65536

-- the value of a field that was read, or a number that no field of 16 bits has
abbrev pub value_of : Read ℕ → ℕ
value_of (read_refused n at) = 65536
value_of (read_got value next) = value

-- the field at a bit, and that number where it is not wholly there or may not be asked for
abbrev pub answer_of : List ℕ → ℕ → ℕ → ℕ
answer_of image at width = if in_bounds image at width then value_of (field width anything image at) else 65536
