-- The choice with nothing kept, as the best so far and the rules that are left.
use Prim.Native.Nat.{ℕ, zero, suc, ◌+◌}
use mathlib.Core.Path.{◌≡◌, refl, sym, ap, ◌∙◌}
use mathlib.Core.List.{List, ◌∷◌}
use mathlib.Core.Option as math
use Rattle.std.specs.Prelude.{None}
use Rattle.meaning.specs.declared.State.{State}
use Rattle.meaning.specs.Base.{keep}
use Rattle.meaning.specs.Highest.{highest}
use Rattle.meaning.specs.Choice.{Candidate, utilities, counts, lower}
use Rattle.meaning.specs.Fresh.{matched, choose_fresh}
use Rattle.layout.specs.Rows.{rows_in, rule_in, rules_in}
use Rattle.match_best.specs.Chosen.{candidate_with}
use Rattle.match_best.proofs.TurnLaws as turns
use Rattle.fresh_best.specs.Matched.{entry_in}

module _ (heads words : List ℕ) (s : State) where
  -- rules with their utilities and entries are rows as all others
  matched-are : (k m : ℕ) → matched k (rows_in (rule_in heads words) k m) (utilities (rows_in (rule_in heads words) k m)) s ≡ rows_in (candidate_with heads words (entry_in heads words s)) k m
  unfolding matched rows_in
  matched-are k zero = refl
  matched-are k (suc m) = ap (λ (l : List Candidate). candidate_with heads words (entry_in heads words s) k ∷ l) (matched-are (k + 1) m)

  pub fresh_start : (n : ℕ) → turns.chosen_from heads words (entry_in heads words s) n 0 None ≡ choose_fresh (rules_in heads words n) (utilities (rules_in heads words n)) s
  unfolding choose_fresh
  fresh_start n = turns.chosen-start heads words (entry_in heads words s) n ∙ ap (λ (l : List Candidate). highest lower math.none (keep counts l)) (sym (matched-are 0 n))
