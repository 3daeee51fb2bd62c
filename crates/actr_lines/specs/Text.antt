-- "The printing program": its lines in letters (ASCII), one blank between two words, a newline after each line.
use Rattle.std.specs.Prelude.{if◌then◌else◌, List, [], ◌∷◌, ◌++◌, ℕ, zero, suc, ◌+◌, ◌^◌, ltb}
use Rattle.meaning.specs.Step.{Event, event_fired, event_waited}
use Rattle.meaning.specs.Print.{Line, stepped, end}
use Rattle.io.specs.Digits.{last_digits}

-- the fewest digits that hold n, of k or more: n tries are always enough
abbrev pub width_from : ℕ → ℕ → ℕ → ℕ
width_from zero k n = k
width_from (suc tries) k n = if ltb n (10 ^ k) then k else width_from tries (k + 1) n

-- a number in decimal digits, as few as hold it, and one at least
unfoldable pub decimal : ℕ → List ℕ
decimal n = last_digits 10 (width_from n 1 n) n

abbrev pub blank : List ℕ
blank = 32 ∷ []

abbrev pub newline : List ℕ
newline = 10 ∷ []

-- " fire "
abbrev pub fired : List ℕ
fired = 32 ∷ 102 ∷ 105 ∷ 114 ∷ 101 ∷ 32 ∷ []

-- " wait "
abbrev pub waited : List ℕ
waited = 32 ∷ 119 ∷ 97 ∷ 105 ∷ 116 ∷ 32 ∷ []

-- "end "
abbrev pub ended : List ℕ
ended = 101 ∷ 110 ∷ 100 ∷ 32 ∷ []

-- "`fire` or `wait`, the rule number or the ms waited"
abbrev pub happened : Event → List ℕ
happened (event_fired k) = fired ++ decimal k
happened (event_waited ms) = waited ++ decimal ms

-- "one line each: clock after the step, .."; "The last line is `end`, the number, the steps made."
abbrev pub letters : Line → List ℕ
letters (stepped clock e) = decimal clock ++ happened e ++ newline
letters (end number made) = ended ++ decimal number ++ blank ++ decimal made ++ newline

-- the whole output: its lines, one after the other
unfoldable pub text : List Line → List ℕ
text [] = []
text (line ∷ lines) = letters line ++ text lines
