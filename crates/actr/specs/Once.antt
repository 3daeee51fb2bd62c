-- The contract of `print` settles what is written: two results that keep it have as many letters, and the same.
-- (Bytes of the lent room after the letters are not written out, and nothing is said of them.)
use Rattle.std.specs.Prelude.{◌≡◌, List, ℕ, length, take}
use Rattle.std.proofs.Common.{sym, ap, ◌∙◌, arith, length-take}
use Rattle.io.specs.Counts.{IsPrefixLen}
use Rattle.meaning.specs.Print.{printed}
use Rattle.actr_lines.specs.Text.{text}

pub print-once : (image : List ℕ) (r r' : ℕ) (room room' : List ℕ) → IsPrefixLen r room → IsPrefixLen r' room'
    → take r room ≡ text (printed image) → take r' room' ≡ text (printed image) → (r ≡ r') × (take r room ≡ take r' room')
print-once image r r' room room' c c' p q =
    let same : take r room ≡ take r' room' = p ∙ sym q in
    (omega (arith, c, c', ap length same, length-take r room, length-take r' room'), same)
