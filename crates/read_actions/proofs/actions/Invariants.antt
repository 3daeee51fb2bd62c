use Rattle.std.proofs.Common.{◌≡◌, length}
use Rattle.meaning.specs.Numbers.{finer}
use Rattle.meaning.specs.Image.{action, actions}
use Rattle.layout.specs.Rows.{tests_in, actions_in}
use Rattle.layout.proofs.LoopLaws.{onward}
use Rattle.read_actions.proofs.actions.Given as goal

abbrev pub invariant-loop-i : goal.invariant-loop-i
invariant-loop-i l = record {
  reads : onward (action finer l.sizes l.variables (tests_in l.tests 0 l.n)) (λ a. a.buffer) l.reader.image l.m (actions_in l.rows 0 l.i) l.i l.least l.reader.at
      ≡ actions finer l.sizes l.variables (tests_in l.tests 0 l.n) l.m l.initial.reader.image l.initial.reader.at;
  follows : l.reader.image ≡ l.initial.reader.image;
  long : length l.rows ≡ length l.initial.rows;
}
