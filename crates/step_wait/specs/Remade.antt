-- One buffer of a state in words, changed.
use Rattle.std.specs.Prelude.{ℕ, ◌+◌, ◌*◌, ◌≤◌, ◌<◌, ◌≡◌, Bool, ◌&&◌, not, List, get_or}
use Rattle.meaning.specs.declared.Buffer.{Buffer}
use Rattle.meaning.specs.State.{visible}
use Rattle.layout.specs.StateWords.{buffer_in}

-- buffer k is b now, and no word but its own eleven has changed
pub record Remade (w w' : List ℕ) (k : ℕ) (b : Buffer) : Type 0 where
  pub made : buffer_in w' k ≡ b
  pub below : (j : ℕ) → j < 11 * k → get_or w' j 0 ≡ get_or w j 0
  pub above : (j : ℕ) → 11 * k + 11 ≤ j → get_or w' j 0 ≡ get_or w j 0

-- a buffer that was pending and is visible
abbrev pub arrives : Buffer → Buffer → Bool
arrives b b' = not (visible b) && visible b'
