use Prim.Native.Nat.{ℕ, ◌*◌}
use mathlib.Core.Path.{◌≡◌}
use lib.ListN.{length}
use Rattle.meaning.specs.Match.{fresh_table}
use Rattle.layout.specs.Rows.{rule_in, rules_in}
use Rattle.layout.specs.StateWords.{state_in}
use Rattle.match_table.proofs.TableLaws.{making}
use Rattle.match_table.proofs.fresh.Given as goal

abbrev pub invariant-loop-k : goal.invariant-loop-k
invariant-loop-k l = (length l.table ≡ 9 * l.n)
    × ((clock : ℕ) → making (rule_in l.heads l.words) (state_in l.state clock) l.n l.k l.table ≡ fresh_table (rules_in l.heads l.words l.n) (state_in l.state clock))
