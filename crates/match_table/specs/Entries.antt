-- A table with one entry anew, and one that is refreshed so far.
use Rattle.std.specs.Prelude.{ℕ, ◌+◌, ◌-◌, ◌*◌, List, ◌++◌, take, drop}
use Rattle.meaning.specs.declared.State.{State}
use Rattle.meaning.specs.Model.{Rule}
use Rattle.meaning.specs.Refresh.{refresh}
use Rattle.layout.specs.Rows.{rows_in}

-- the table with rule k's nine words replaced
abbrev pub with_entry : List ℕ → ℕ → List ℕ → List ℕ
with_entry table k nine = take (9 * k) table ++ (nine ++ drop (9 * k + 9) table)

-- a refresh of n rules from rule k on: the entries below k are done
unfoldable pub doing : (ℕ → Rule) → State → ℕ → ℕ → ℕ → List ℕ → List ℕ
doing rule s n mark k table = take (9 * k) table ++ refresh (rows_in rule k (n - k)) s mark (drop (9 * k) table)
