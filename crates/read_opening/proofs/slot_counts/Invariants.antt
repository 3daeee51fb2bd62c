-- What is left of the counts, read from here and stored from here on, makes the whole.
use Rattle.std.proofs.Common.{◌≡◌, ◌+◌, ◌-◌, ◌∷◌, take}
use Rattle.meaning.specs.Numbers.{finer, bad_number}
use Rattle.meaning.specs.Read.{Reader, field, must}
use Rattle.meaning.specs.Image.{between, slot_counts}
use Rattle.layout.specs.Walks.{mapped, Small}
use Rattle.read_ranges.specs.Reading.{Follows}
use Rattle.read_facts.proofs.StoreLaws.{stored}
use Rattle.std.specs.Prelude.{ℕ}
use Rattle.read_opening.proofs.slot_counts.Given as goal

-- one count
abbrev pub one : Reader ℕ
one = field 4 (must bad_number (between 0 8))

abbrev pub invariant-loop-t : goal.invariant-loop-t
invariant-loop-t l = record {
  reads : stored (λ x. x) (take (l.declared + 1)) one l.reader.image l.types (l.t + 1) (l.declared - l.t) l.reader.at
      ≡ mapped (λ counts. 0 ∷ counts) (slot_counts finer l.declared l.fn.reader.image l.fn.reader.at);
  follows : Follows l.fn.reader l.reader;
  small : Small l.types;
}
