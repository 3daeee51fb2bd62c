-- Masks as sets of numbers.
use Rattle.std.specs.Prelude.{ℕ, ◌+◌, ◌*◌, ◌%◌, ◌≡◌, Bool, List, eqb, get_or}
use Rattle.meaning.specs.Base.{any_of, bit}
use Rattle.meaning.specs.Image.{is_variable}
use Rattle.layout.specs.Rows.{rows_in, masked_in}

-- a mask holds the numbers that pass
abbrev pub Holds : (ℕ → Bool) → ℕ → Type 0
Holds p mask = (b : ℕ) → bit mask b ≡ p b

-- variable v stands in the row at q
abbrev pub stands_at : List ℕ → ℕ → ℕ → Bool
stands_at w q v = any_of (λ n. is_variable v n.term) (masked_in w q)

-- buffer b is named by one of n words, the first at o and each `step` words after the one before it
abbrev pub names_buffer : List ℕ → ℕ → ℕ → ℕ → ℕ → Bool
names_buffer w o step n b = any_of (λ x. eqb x b) (rows_in (λ k. get_or w (o + step * k) 0 % 8) 0 n)
