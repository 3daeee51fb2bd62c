use mathlib.Core.Path.{◌≡◌}
use lib.ListN.{length, take}
use Rattle.layout.specs.Rows.{rows_in}
use Rattle.layout.specs.StateWords.{buffer_in}
use Rattle.layout_state.specs.Words.{Flags}
use Rattle.layout_state.proofs.lay_state.Given as goal

abbrev pub invariant-loop-k : goal.invariant-loop-k
invariant-loop-k l = (length l.state.buffers ≡ 8) × (length l.words ≡ length l.initial.words) × (rows_in (buffer_in l.words) 0 l.k ≡ take l.k l.state.buffers) × Flags l.words l.k
