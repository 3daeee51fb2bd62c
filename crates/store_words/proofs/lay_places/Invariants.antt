use Prim.Native.Nat.{◌-◌}
use mathlib.Core.Path.{◌≡◌}
use lib.ListN.{take}
use Rattle.meaning.specs.Base.{every}
use Rattle.meaning.specs.Store.{place_in, holdable}
use Rattle.layout.specs.Rows.{rows_in}
use Rattle.store_words.specs.Rows.{RowsLaid}
use Rattle.store_words.proofs.lay_places.Given as goal

abbrev pub invariant-loop-i : goal.invariant-loop-i
invariant-loop-i l = record {
  laid : RowsLaid l.own l.initial.tape l.tape l.store l.i;
  judged : every (holdable (take l.types l.initial.tape)) (rows_in (place_in l.store) l.i (l.n - l.i)) ≡ every (holdable (take l.types l.initial.tape)) (rows_in (place_in l.store) 0 l.n);
}
