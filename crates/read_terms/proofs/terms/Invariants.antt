use Rattle.std.proofs.Common.{◌≡◌, length}
use Rattle.meaning.specs.Numbers.{finer}
use Rattle.meaning.specs.Image.{terms, slots_in}
use Rattle.read_terms.proofs.MaskBits.{rest}
use Rattle.read_terms.proofs.TermLaws.{on_to}
use Rattle.read_terms.proofs.terms.Given as goal

abbrev pub invariant-loop-slot : goal.invariant-loop-slot
invariant-loop-slot l = record {
  reads : on_to l.mask l.variables l.reader.image l.slots l.slot l.reader.at ≡ terms finer l.variables (slots_in l.mask) l.initial.reader.image l.initial.reader.at;
  follows : l.reader.image ≡ l.initial.reader.image;
  long : length l.slots ≡ 8;
  counted : l.left ≡ length (rest l.mask l.slot);
}
