-- Rules in words, each with its entry as a match finds it now.
use Rattle.std.specs.Prelude.{ℕ, ◌≡◌, List, Option, None, Some}
use Rattle.std.proofs.Math.Option as math
use Rattle.meaning.specs.declared.State.{State}
use Rattle.meaning.specs.Match.{entry_of}
use Rattle.meaning.specs.Choice.{Candidate}
use Rattle.layout.specs.Rows.{rule_in}
use Rattle.layout.specs.StateWords.{state_in}
use Rattle.match_best.specs.Chosen.{chosen_with}

-- the entry of rule k in a state
abbrev pub entry_in : List ℕ → List ℕ → State → ℕ → List ℕ
entry_in heads words s k = entry_of (rule_in heads words k) s

-- the chosen rule, with its entry in a state
abbrev pub matched_of : List ℕ → List ℕ → State → Option ℕ → math.Option Candidate
matched_of heads words s chosen = chosen_with heads words (entry_in heads words s) chosen

-- nine words are the entry of the chosen rule, whatever the clock
abbrev pub Entered : List ℕ → List ℕ → List ℕ → Option ℕ → List ℕ → Type 0
Entered heads words state (Some k) nine = (clock : ℕ) → nine ≡ entry_in heads words (state_in state clock) k
Entered heads words state None nine = Unit {0}
