-- Whether a fact fits, slot by slot: the slots that are left, once the type is right.
use Prim.Native.Nat.{ℕ, ◌+◌, ◌≤◌, ◌<◌}
use mathlib.Core.Path.{◌≡◌, sym, ap, ◌∙◌}
use mathlib.Core.Bool.{Bool, true, false}
use mathlib.Core.List.{List}
use native.Mathlib.Omega.{arith}
use lib.Dec.{eqb}
use lib.ListN.{get_or}
use borrow.Author.Tests.{eq-eqb, ne_eqb}
use Rattle.meaning.specs.Base.{every}
use Rattle.meaning.specs.Image.{names, slots_in}
use Rattle.meaning.specs.Retrieval.{value_of, fits}
use Rattle.laws.specs.BaseLaws.{every_map}
use Rattle.layout.specs.Rows.{rows_in, word_term, named_in, masked_in, fact_in}
use Rattle.layout.proofs.RowLaws.{rows_get}
use Rattle.read_terms.proofs.MaskBits.{rest, rest-start, rest-on, rest-off, rest_end}

-- the value in a slot of a fact in words
slot_is : (facts : List ℕ) (f b : ℕ) → b < 8 → get_or (fact_in facts f).chunk.slots b 0 ≡ get_or facts (f + 3 + b) 0
unfolding rows_in
slot_is facts f b h = let e : 0 + b ≡ b = omega arith in rows_get (λ b. get_or facts (f + 3 + b) 0) 0 8 b 0 h ∙ ap (λ (j : ℕ). get_or facts (f + 3 + j) 0) e

module _ (facts : List ℕ) (f : ℕ) (words : List ℕ) (q : ℕ) (nine : List ℕ) where
  -- slot b has the value of its term
  abbrev slot_fits : ℕ → Bool
  slot_fits b = eqb (get_or (fact_in facts f).chunk.slots b 0) (value_of nine (word_term (get_or words (q + 3 + b) 0)))

  -- the slots from b on that a mask names
  unfoldable pub fits_from : ℕ → ℕ → Bool
  fits_from mask b = every slot_fits (rest mask b)

  -- what the definition says of the fact
  abbrev pub fits_whole : Bool
  fits_whole = fits (get_or words (q + 1) 0) (masked_in words q) nine (fact_in facts f)

  pub fits-other : (get_or facts f 0 ≡ get_or words (q + 1) 0 → ⊥) → false ≡ fits_whole
  fits-other z = rw (ne_eqb (get_or facts f 0) (get_or words (q + 1) 0) z)

  pub fits-start : get_or facts f 0 ≡ get_or words (q + 1) 0 → fits_from (get_or words (q + 2) 0) 0 ≡ fits_whole
  unfolding fits_from
  fits-start e =
      rw (eq-eqb (get_or facts f 0) (get_or words (q + 1) 0) e, rest-start (get_or words (q + 2) 0))
      (sym (every_map (λ n. eqb (get_or (fact_in facts f).chunk.slots n.slot 0) (value_of nine n.term)) (named_in words q) (slots_in (get_or words (q + 2) 0))))

  pub fits-end : (mask b : ℕ) → 8 ≤ b → fits_from mask b ≡ true
  unfolding fits_from
  fits-end mask b h = rw (rest_end mask b h)

  module _ (mask b : ℕ) (h : b < 8) where
    pub fits-skip : names mask b ≡ false → fits_from mask (b + 1) ≡ fits_from mask b
    unfolding fits_from
    fits-skip z = rw (rest-off mask b h z)

    module _ (z : names mask b ≡ true) (value : ℕ) (e : value ≡ value_of nine (word_term (get_or words (q + 3 + b) 0))) where
      pub fits-turn : get_or facts (f + 3 + b) 0 ≡ value → fits_from mask (b + 1) ≡ fits_from mask b
      unfolding fits_from
      fits-turn s = rw (rest-on mask b h z, eq-eqb _ _ (slot_is facts f b h ∙ s ∙ e))

      pub fits_not : (get_or facts (f + 3 + b) 0 ≡ value → ⊥) → false ≡ fits_from mask b
      unfolding fits_from
      fits_not s = rw (rest-on mask b h z, ne_eqb _ _ (λ d. s (sym (slot_is facts f b h) ∙ d ∙ sym e)))

pub ruleset fitting = (fits-other, fits-start, fits-end, fits-skip, fits-turn, fits_not)
