use Rattle.std.proofs.Common.{◌≡◌, length, take}
use Rattle.meaning.specs.Numbers.{finer}
use Rattle.meaning.specs.Image.{test, tests}
use Rattle.layout.specs.Rows.{tests_in}
use Rattle.layout.proofs.LoopLaws.{onward}
use Rattle.read_tests.proofs.tests.Given as goal

abbrev pub invariant-loop-i : goal.invariant-loop-i
invariant-loop-i l = record {
  reads : onward (test finer l.sizes l.variables) (λ t. t.buffer) l.reader.image l.n (tests_in l.words l.o l.i) l.i l.least l.reader.at
      ≡ tests finer l.sizes l.variables l.n l.initial.reader.image l.initial.reader.at;
  follows : l.reader.image ≡ l.initial.reader.image;
  long : length l.words ≡ length l.initial.words;
  kept : take l.o l.words ≡ take l.o l.initial.words;
}
