use Prim.Native.Nat.{◌-◌}
use mathlib.Core.Path.{◌≡◌}
use Rattle.meaning.specs.Wait.{soonest}
use Rattle.layout.specs.Rows.{rows_in}
use Rattle.layout.specs.StateWords.{buffer_in, buffers_in}
use Rattle.step_wait.proofs.soonest.Given as goal

abbrev pub invariant-loop-k : goal.invariant-loop-k
invariant-loop-k l = soonest l.ms (rows_in (buffer_in l.state) l.k (8 - l.k)) ≡ soonest 0 (buffers_in l.state)
