-- Why a rule does not match: a word of the state that has not the value without which it cannot.
use Rattle.std.specs.Prelude.{if◌then◌else◌, ℕ, ◌+◌, ◌*◌, ◌/◌, ◌%◌, ◌<◌, ◌≡◌, Bool, true, false, List, ltb, eqb, get_or, replicate}
use Rattle.meaning.specs.Model.{Rule, Ask, busy, free, error}
use Rattle.meaning.specs.Match.{entry_of}
use Rattle.layout.specs.StateWords.{state_in}
use Rattle.match_rule.specs.Words.{StandsAt}
use Rattle.match_rule.specs.declared.Tried.{Tried}
use Rattle.match_rule.specs.declared.Tried.TheVariants.{Hit, Differs, Varies}

-- where the word at `place` is another than `value`, the rule does not match
abbrev pub Shuts : Rule → ℕ → ℕ → Type 0
Shuts r place value = (state : List ℕ) (clock : ℕ) → (get_or state place 0 ≡ value → ⊥) → entry_of r (state_in state clock) ≡ replicate 9 0

-- the delay of the buffer that a word of the state is of
abbrev pub delay_of : ℕ → ℕ
delay_of place = 11 * (place / 11) + 9

-- a term that is a symbol was wanted at that place; of a variable nothing is said
abbrev pub why_of : ℕ → ℕ → Tried
why_of place term = if ltb term 4096 then Differs place term else Varies

-- a query of the buffer whose words start at p: "0 busy (delay above 0), 1 free (delay 0), 2 error (visible, flag set)"; a delay of 0 is wanted, or a flag of 1,
-- or any delay but 0, of which no value is said
abbrev pub asked : Ask → ℕ → List ℕ → Tried
asked busy p state = if eqb (get_or state (p + 9) 0) 0 then Varies else Hit
asked free p state = if eqb (get_or state (p + 9) 0) 0 then Hit else Differs (p + 9) 0
asked error p state = if eqb (get_or state (p + 9) 0) 0 then (if eqb (get_or state (p + 10) 0) 1 then Hit else Differs (p + 10) 1) else Differs (p + 9) 0

abbrev pub is_hit : Tried → Bool
is_hit Hit = true
is_hit (Differs place value) = false
is_hit Varies = false

-- the word at `place` is another than `value`, and as long as it is, or the buffer is not visible, no rule with these tests and queries matches;
-- of an error flag, 1 is wanted: another word is a flag that is clear
pub record Differing (words : List ℕ) (o n : ℕ) (state : List ℕ) (place value : ℕ) : Type 0 where
  pub low : place < 88
  pub differs : get_or state place 0 ≡ value → ⊥
  pub flag : place % 11 ≡ 10 → value ≡ 1
  pub shuts : (r : Rule) → StandsAt r words o n → Shuts r place value
  pub hidden : (r : Rule) → StandsAt r words o n → Shuts r (delay_of place) 0

abbrev pub Because : Tried → List ℕ → ℕ → ℕ → List ℕ → Type 0
Because Hit words o n state = Unit {0}
Because (Differs place value) words o n state = Differing words o n state place value
Because Varies words o n state = Unit {0}

-- nine words are the fresh entry of any rule with these tests and queries; the first says whether it matches; and why it does not
pub record Made (tried : Tried) (nine words : List ℕ) (o n : ℕ) (state : List ℕ) : Type 0 where
  pub fresh : (r : Rule) (clock : ℕ) → StandsAt r words o n → nine ≡ entry_of r (state_in state clock)
  pub first : get_or nine 0 0 ≡ (if is_hit tried then 1 else 0)
  pub because : Because tried words o n state
