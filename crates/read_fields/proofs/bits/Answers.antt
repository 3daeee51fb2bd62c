-- `read_fields::bits` meets its contract: what is cut out of the three bytes is the field, and so it fits 16 bits.
use native.Mathlib.Omega.{arith}
use lib.Pow.{pow_pos, pow_mono}
use Rattle.meaning.specs.Bits.{field_at}
use Rattle.laws.specs.BitsLaws.{field_at-lt}
use Rattle.read_fields.proofs.Laws.{cut, cut_of}
use mathlib.Core.Path.{◌≡◌}
use borrow.Author.Rules.{rules}
use Rattle.read_fields.proofs.bits.Goals as goal
use Rattle.read_fields.proofs.bits.Goals.{After-three_bytes-bytes}

-- what is cut out is the field
is_field : (c : After-three_bytes-bytes) → let a = c.args in cut_of a.at a.width c.three_bytes-bytes.result ≡ field_at a.image.now a.at a.width
is_field c =
    let a = c.args in
    cut a.image.now a.at a.width c.three_bytes-bytes.result c.requires.0 c.three_bytes-bytes.ensures.0 c.three_bytes-bytes.ensures.1 c.three_bytes-bytes.ensures.2

pub overflow_cast-result-3 : goal.overflow_cast-result-3
overflow_cast-result-3 c =
    let a = c.args in
    record { fits = omega (arith, is_field (goal.at.overflow_cast-result-3 c).After-three_bytes-bytes, field_at-lt a.image.now a.at a.width, pow_mono {i = a.width} {j = 16} c.requires.0) }

pub returns : goal.returns
returns c = is_field (goal.at.returns c).After-three_bytes-bytes
