-- The rules below k are laid, and what is left is read from here.
use Rattle.std.proofs.Common.{◌≡◌, length, drop}
use Rattle.meaning.specs.Read.{times}
use Rattle.meaning.specs.Numbers.{finer}
use Rattle.meaning.specs.Image.{rule}
use Rattle.layout.specs.Rows.{rules_in, Laid}
use Rattle.layout.proofs.LoopLaws.{along}
use Rattle.read_ranges.specs.Reading.{Follows}
use Rattle.read_rules.proofs.rules.Given as goal

abbrev pub invariant-loop-k : goal.invariant-loop-k
invariant-loop-k l = record {
  reads : along (rule finer l.version l.sizes) l.reader.image l.n (rules_in l.words (drop l.rows l.words) l.k) l.k l.reader.at ≡ times l.n (rule finer l.version l.sizes) l.fn.reader.image l.fn.reader.at;
  follows : Follows l.fn.reader l.reader;
  long : length l.words ≡ length l.fn.words;
  laid : Laid l.words (drop l.rows l.words) l.k;
}
