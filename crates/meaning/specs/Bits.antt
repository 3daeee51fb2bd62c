-- Packed fields, bit by bit.
use Rattle.std.specs.Prelude.{List, ℕ, zero, suc, ◌+◌, ◌-◌, ◌*◌, ◌/◌, ◌%◌, ◌^◌, get_or}

-- "most significant bit first, without gaps": bit `at` of the image, counted from 0
abbrev pub bit_at : List ℕ → ℕ → ℕ
bit_at image at = get_or image (at / 8) 0 / 2 ^ (7 - at % 8) % 2

-- "Fields are packed most significant bit first, without gaps."
unfoldable pub field_at : List ℕ → ℕ → ℕ → ℕ
field_at image at zero = 0
field_at image at (suc width) = field_at image at width * 2 + bit_at image (at + width)
