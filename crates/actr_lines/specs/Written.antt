-- What is put into lent bytes, and the lines that the words of a run's events tell.
use Rattle.std.specs.Prelude.{if◌then◌else◌, ◌≡◌, List, [], ◌∷◌, ◌++◌, ℕ, zero, suc, ◌+◌, ◌*◌, ◌≤◌, eqb, length, get_or, take}
use Rattle.meaning.specs.Print.{Line, stepped}
use Rattle.step_note.specs.Events.{event_by}
use Rattle.actr_lines.specs.Text.{fired, waited}

-- letters were put after the first `at` bytes of a text, `most` of them at most, and end at `end`; what stood before them stays
pub record Written (before : List ℕ) (at : ℕ) (after : List ℕ) (end most : ℕ) (letters : List ℕ) : Type 0 where
  pub ends : end ≡ at + length letters
  pub fits : length letters ≤ most
  pub reads : take end after ≡ take at before ++ letters

-- the word between the clock and the number, by the kind of a step
abbrev pub word : ℕ → List ℕ
word kind = if eqb kind 0 then fired else waited

-- the line of event k, in three words of those that a run noted
abbrev pub line_in : List ℕ → ℕ → Line
line_in words k = stepped (get_or words (3 * k) 0) (event_by (get_or words (3 * k + 1) 0) (get_or words (3 * k + 2) 0))

-- the lines of n events, from number k on
unfoldable pub lines_in : List ℕ → ℕ → ℕ → List Line
lines_in words k zero = []
lines_in words k (suc n) = line_in words k ∷ lines_in words (k + 1) n
