use Prim.Native.Nat.{ℕ, ◌≤◌, ◌*◌}
use mathlib.Core.Path.{◌≡◌}
use lib.ListN.{length}
use Rattle.meaning.specs.Refresh.{refresh, refresh_count}
use Rattle.layout.specs.Rows.{rule_in, rules_in}
use Rattle.layout.specs.StateWords.{state_in}
use Rattle.match_table.specs.Entries.{doing}
use Rattle.match_table.proofs.TableLaws.{counting}
use Rattle.match_table.proofs.refresh.Given as goal

abbrev pub invariant-loop-k : goal.invariant-loop-k
invariant-loop-k l = (length l.table ≡ 9 * l.n)
    × ((clock : ℕ) → doing (rule_in l.heads l.words) (state_in l.state clock) l.n l.mark l.k l.table ≡ refresh (rules_in l.heads l.words l.n) (state_in l.state clock) l.mark l.initial.table)
    × (l.count ≤ l.k) × (counting (rule_in l.heads l.words) l.mark l.n l.k l.count ≡ refresh_count (rules_in l.heads l.words l.n) l.mark)
