use Prim.Native.Nat.{ℕ, ◌+◌, ◌-◌}
use mathlib.Core.Path.{◌≡◌}
use Rattle.meaning.specs.Match.{queries_hold}
use Rattle.layout.specs.Rows.{queries_at}
use Rattle.layout.specs.StateWords.{state_in}
use Rattle.match_rule.proofs.QueryLaws.{queries_from}
use Rattle.fresh_match.proofs.held.Given as goal

abbrev pub invariant-loop-asked : goal.invariant-loop-asked
invariant-loop-asked l =
    (clock : ℕ) → queries_hold (queries_from l.words (l.o + 89) l.asked (l.m - l.asked)) (state_in l.state clock) ≡ queries_hold (queries_at l.words l.o) (state_in l.state clock)
