-- Reading in order, one field after the other, until one is refused. A reader takes the image's bytes and a position in bits.
use Rattle.std.specs.Prelude.{if◌then◌else◌, Bool, List, [], ◌∷◌, ℕ, zero, suc, ◌+◌, ◌*◌, ltb, length}
use Rattle.meaning.specs.Numbers.{not_there}
use Rattle.meaning.specs.Bits.{field_at}

-- what a reader answers: the number of a refusal with the position of the field's first bit, or the value with the position after it
pub data Read (A : Type 0) : Type 0 where
  read_refused : ℕ → ℕ → Read A
  read_got : A → ℕ → Read A

abbrev pub Reader : Type 0 → Type 0
Reader A = List ℕ → ℕ → Read A

module _ {A B : Type 0} where
  -- "the earlier in reading order": a refusal is final, and a value is handed on
  abbrev pub follow : Read A → (A → ℕ → Read B) → Read B
  follow (read_refused n at) k = read_refused n at
  follow (read_got a at) k = k a at

  -- first this, and with its value what follows (a line `x ← p` of a `do`, where it is brought in as `>>=`)
  abbrev pub and_then : Reader A → (A → Reader B) → Reader B
  and_then p k image at = follow (p image at) (λ a after. k a image after)

  -- first this, and then what follows (a line `p` of a `do`, where it is brought in as `>>`)
  abbrev pub next : Reader A → Reader B → Reader B
  next p q image at = follow (p image at) (λ a after. q image after)

-- nothing is read, and this is given
abbrev pub give : {A : Type 0} → A → Reader A
give a image at = read_got a at

-- the rule of a field judges its value: 0 where the value keeps the rule, else the number of the refusal
abbrev pub Judgement : Type 0
Judgement = ℕ → ℕ

-- a rule that is a condition, with the number of its refusal
abbrev pub must : ℕ → (ℕ → Bool) → Judgement
must number holds value = if holds value then 0 else number

-- two rules of one field: the second is judged where the first is kept
abbrev pub or_else : ℕ → ℕ → ℕ
or_else zero n = n
or_else (suc m) n = suc m

infixl 20 ◌also◌
abbrev pub ◌also◌ : Judgement → Judgement → Judgement
◌also◌ first second value = or_else (first value) (second value)

abbrev pub judged : ℕ → ℕ → ℕ → ℕ → Read ℕ
judged zero value at next = read_got value next
judged (suc n) value at next = read_refused (suc n) at

-- "a field is not wholly there", or "a field breaks its rule": each field is judged when it is read
unfoldable pub field : ℕ → Judgement → Reader ℕ
field width rule image at =
    if ltb (8 * length image) (at + width) then read_refused not_there at
    else (judged (rule (field_at image at width)) (field_at image at width) at (at + width))

-- what must hold between two fields
abbrev pub require : ℕ → Bool → Reader (Unit {0})
require number holds image at = if holds then read_got tt at else read_refused number at

-- n things, one after the other
unfoldable pub times : {A : Type 0} → ℕ → Reader A → Reader (List A)
times zero p = give []
times (suc n) p = and_then p (λ x. and_then (times n p) (λ xs. give (x ∷ xs)))

-- "buffers rise strictly": n things, each read with the lowest buffer that may stand in it, which is one above the last thing's
unfoldable pub rising : {A : Type 0} → (ℕ → Reader A) → (A → ℕ) → ℕ → ℕ → Reader (List A)
rising p buffer zero least = give []
rising p buffer (suc n) least = and_then (p least) (λ x. and_then (rising p buffer n (buffer x + 1)) (λ xs. give (x ∷ xs)))
