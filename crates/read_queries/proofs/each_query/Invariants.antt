-- The queries that stand in the words so far, and then what is left from here, are the whole.
use Rattle.std.proofs.Common.{◌≡◌, length, take}
use Rattle.meaning.specs.Read.{rising}
use Rattle.meaning.specs.Numbers.{finer}
use Rattle.meaning.specs.Image.{query}
use Rattle.layout.specs.Rows.{queries_in}
use Rattle.layout.proofs.LoopLaws.{onward}
use Rattle.read_ranges.specs.Reading.{Follows}
use Rattle.read_queries.proofs.each_query.Given as goal

abbrev pub invariant-loop-i : goal.invariant-loop-i
invariant-loop-i l = record {
  reads : onward (query finer l.buffers) (λ q. q.buffer) l.reader.image l.n (queries_in l.own 89 l.i) l.i l.least l.reader.at
      ≡ rising (query finer l.buffers) (λ q. q.buffer) l.n 0 l.fn.reader.image l.fn.reader.at;
  follows : Follows l.fn.reader l.reader;
  kept : take 89 l.own ≡ take 89 l.fn.own;
  long : length l.own ≡ length l.fn.own;
}
