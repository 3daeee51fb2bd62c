-- What is left of the chunks, read from here and stored from here on, makes the whole.
use Rattle.std.proofs.Common.{◌≡◌, ◌-◌}
use Rattle.meaning.specs.Numbers.{finer}
use Rattle.meaning.specs.Read.{times}
use Rattle.meaning.specs.Image.{chunk}
use Rattle.meaning.specs.State.{opens}
use Rattle.layout.specs.Walks.{mapped}
use Rattle.read_ranges.specs.Reading.{Follows}
use Rattle.read_facts.proofs.StoreLaws.{stored}
use Rattle.read_opening.specs.Parts.{opening_state}
use Rattle.read_opening.proofs.OpeningLaws.{state_of}
use Rattle.read_opening.proofs.opening.Given as goal

abbrev pub invariant-loop-i : goal.invariant-loop-i
invariant-loop-i l = record {
  reads : stored opens state_of (chunk finer l.types 0) l.reader.image l.state.buffers l.i (l.n - l.i) l.reader.at
      ≡ mapped (opening_state l.n) (times l.n (chunk finer l.types 0) l.fn.reader.image l.fn.reader.at);
  follows : Follows l.fn.reader l.reader;
  clock : l.state.clock ≡ 0;
}
