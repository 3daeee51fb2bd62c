use Rattle.std.specs.Prelude.{Option}
use Prim.Native.Nat.{ℕ}
use mathlib.Core.Path.{◌≡◌}
use mathlib.Core.List.{List}
use lib.ListN.{length}
use Rattle.meaning.specs.Choice.{utilities}
use Rattle.meaning.specs.Fresh.{choose_fresh}
use Rattle.layout.specs.Rows.{rules_in}
use Rattle.layout.specs.StateWords.{state_in}
use Rattle.match_best.proofs.TurnLaws.{Leads, chosen_from}
use Rattle.fresh_best.specs.Matched.{entry_in, Entered}
use Rattle.fresh_best.proofs.best.Given as goal

-- after k of n rules: the best so far leads, its entry stands in the nine words, and it and the rules from k on give what all give
pub record Turning (heads words : List ℕ) (n : ℕ) (state nine trial : List ℕ) (best : Option ℕ) (top k : ℕ) : Type 0 where
  pub nine_words : length nine ≡ 9
  pub trial_words : length trial ≡ 9
  pub leads : Leads heads n best top
  pub entered : Entered heads words state best nine
  pub so_far : (clock : ℕ) → chosen_from heads words (entry_in heads words (state_in state clock)) n k best
      ≡ choose_fresh (rules_in heads words n) (utilities (rules_in heads words n)) (state_in state clock)

abbrev pub invariant-loop-k : goal.invariant-loop-k
invariant-loop-k l = Turning l.heads l.words l.n l.state l.nine l.trial l.best l.top l.k
