-- The facts that were read stand in rows, and what is left is read from here.
use Rattle.std.proofs.Common.{◌≡◌, length}
use Rattle.meaning.specs.Read.{times}
use Rattle.meaning.specs.Numbers.{finer}
use Rattle.meaning.specs.Image.{fact}
use Rattle.layout.specs.Rows.{facts_in}
use Rattle.layout.proofs.LoopLaws.{along}
use Rattle.read_ranges.specs.Reading.{Follows}
use Rattle.read_facts.proofs.facts.Given as goal

abbrev pub invariant-loop-i : goal.invariant-loop-i
invariant-loop-i l = record {
  reads : along (fact finer l.types) l.reader.image l.n (facts_in l.words l.i) l.i l.reader.at ≡ times l.n (fact finer l.types) l.fn.reader.image l.fn.reader.at;
  follows : Follows l.fn.reader l.reader;
  long : length l.words ≡ length l.fn.words;
}
