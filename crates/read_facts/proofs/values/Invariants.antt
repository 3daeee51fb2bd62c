-- What is left of the values, read from here and stored from here on, makes the whole.
use Rattle.std.proofs.Common.{◌≡◌, length, ◌-◌}
use Rattle.meaning.specs.Read.{times, field}
use Rattle.meaning.specs.Image.{anything, eight}
use Rattle.layout.specs.Walks.{mapped}
use Rattle.read_ranges.specs.Reading.{Follows}
use Rattle.read_facts.proofs.StoreLaws.{stored}
use Rattle.read_facts.proofs.values.Given as goal

abbrev pub invariant-loop-i : goal.invariant-loop-i
invariant-loop-i l = record {
  reads : stored (λ x. x) (λ l. l) (field 12 anything) l.reader.image l.slots l.i (l.n - l.i) l.reader.at
      ≡ mapped eight (times l.n (field 12 anything) l.fn.reader.image l.fn.reader.at);
  follows : Follows l.fn.reader l.reader;
  long : length l.slots ≡ 8;
}
