-- What the code's answer stands for, with the nine words of each rule in a table.
use Rattle.std.specs.Prelude.{ℕ, ◌*◌, List, Option, take, drop}
use Rattle.std.proofs.Math.Option as math
use Rattle.meaning.specs.Choice.{Candidate}
use Rattle.match_best.specs.Chosen.{candidate_with, chosen_with}

-- rule k's nine words of a table
abbrev pub words_at : List ℕ → ℕ → List ℕ
words_at table k = take 9 (drop (9 * k) table)

-- rule k of those in words, with its nine words of the table
abbrev pub candidate_at : List ℕ → List ℕ → List ℕ → ℕ → Candidate
candidate_at heads words table k = candidate_with heads words (words_at table) k

abbrev pub candidate_of : List ℕ → List ℕ → List ℕ → Option ℕ → math.Option Candidate
candidate_of heads words table chosen = chosen_with heads words (words_at table) chosen
