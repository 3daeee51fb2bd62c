use Prim.Native.Nat.{◌+◌, ◌-◌, ◌*◌}
use mathlib.Core.Path.{◌≡◌}
use lib.ListN.{length}
use lib.Seq.{sets}
use Rattle.meaning.specs.Store.{places_words}
use Rattle.layout.specs.Rows.{rows_in}
use Rattle.store_words.proofs.BackLaws.{chunk_on}
use Rattle.store_words.proofs.lay_back.Given as goal

abbrev pub invariant-loop-i : goal.invariant-loop-i
invariant-loop-i l = record {
  long : length l.store ≡ length l.initial.store;
  rest : sets l.store (9 * l.i + 1) (places_words (rows_in (chunk_on l.tape l.own) l.i (l.n - l.i))) ≡ sets l.initial.store (9 * l.had + 1) (places_words (rows_in (chunk_on l.tape l.own) l.had (l.n - l.had)));
}
