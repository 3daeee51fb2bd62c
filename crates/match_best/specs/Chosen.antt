-- What the code's answer, the number of a rule or none, stands for, with the nine words of each rule from wherever they come.
use Rattle.std.specs.Prelude.{ℕ, ◌<◌, List, Option, None, Some}
use Rattle.std.proofs.Math.Option as math
use Rattle.meaning.specs.Choice.{Candidate}
use Rattle.layout.specs.Rows.{rule_in}

-- rule k of those in words, with its entry
abbrev pub candidate_with : List ℕ → List ℕ → (ℕ → List ℕ) → ℕ → Candidate
candidate_with heads words entry k = record { number = k; rule = rule_in heads words k; utility = (rule_in heads words k).utility; entry = entry k }

abbrev pub chosen_with : List ℕ → List ℕ → (ℕ → List ℕ) → Option ℕ → math.Option Candidate
chosen_with heads words entry (Some k) = math.some (candidate_with heads words entry k)
chosen_with heads words entry None = math.none

-- the number is below n
abbrev pub Below : Option ℕ → ℕ → Type 0
Below (Some k) n = k < n
Below None n = Unit {0}
