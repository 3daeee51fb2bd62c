-- What a number put into a set, or taken out of it, leaves of the words.
use Prim.Native.Nat.{ℕ, ◌+◌, ◌/◌, ◌%◌}
use mathlib.Core.Path.{◌≡◌, refl, ap, ◌∙◌}
use mathlib.Core.Bool.{Bool, true, false, ◌&&◌, ◌||◌, not, or-true}
use mathlib.Core.List.{List}
use native.Mathlib.Omega.{arith}
use native.Mathlib.Decide.{ℕ_discrete}
use lib.Dec.{eqb}
use borrow.Author.Tests.{eq-eqb, ne_eqb}
use Rattle.match_sets.specs.Sets.{has, member}
use Rattle.match_sets.proofs.BitLaws.{or-none, but-none, but-all}

and_none : (b : Bool) → (b && false) ≡ false
and_none true = refl
and_none false = refl

-- the bit of a number, and not of another
module _ (at k : ℕ) where
  abbrev pub here : ℕ → ℕ → Bool
  here j i = eqb j (at + k / 64) && eqb i (k % 64)

  own : here (at + k / 64) (k % 64) ≡ true
  own = rw (eq-eqb (at + k / 64) (at + k / 64) refl, eq-eqb (k % 64) (k % 64) refl)

  other_word : (j i : ℕ) → (j ≡ at + k / 64 → ⊥) → here j i ≡ false
  other_word j i d = rw (ne_eqb j (at + k / 64) d)

  other-number : (p : ℕ) → (p ≡ k → ⊥) → here (at + p / 64) (p % 64) ≡ false
  other-number p d =
      elim (ℕ_discrete (p / 64) (k / 64)) [
        | yes e ↦ ap (λ (b : Bool). eqb (at + p / 64) (at + k / 64) && b) (ne_eqb (p % 64) (k % 64) (λ q. d (omega arith))) ∙ and_none (eqb (at + p / 64) (at + k / 64))
        | no e ↦ other_word (at + p / 64) (p % 64) (λ q. e (omega arith))
      ]

module _ (sets sets' : List ℕ) (at k : ℕ) (put : (j i : ℕ) → has sets' j i ≡ (has sets j i || (eqb j (at + k / 64) && eqb i (k % 64)))) where
  pub put_in : member sets' at k ≡ true
  put_in = put (at + k / 64) (k % 64) ∙ ap (λ (b : Bool). has sets (at + k / 64) (k % 64) || b) (own at k) ∙ or-true (has sets (at + k / 64) (k % 64))

  pub put-kept : (j i : ℕ) → has sets j i ≡ true → has sets' j i ≡ true
  put-kept j i e = put j i ∙ ap (λ (b : Bool). b || here at k j i) e

  pub put_word : (j i : ℕ) → (j ≡ at + k / 64 → ⊥) → has sets' j i ≡ has sets j i
  put_word j i d = put j i ∙ ap (λ (b : Bool). has sets j i || b) (other_word at k j i d) ∙ or-none (has sets j i)

  pub put_other : (p : ℕ) → (p ≡ k → ⊥) → member sets' at p ≡ member sets at p
  put_other p d = put (at + p / 64) (p % 64) ∙ ap (λ (b : Bool). member sets at p || b) (other-number at k p d) ∙ or-none (member sets at p)

module _ (sets sets' : List ℕ) (at k : ℕ) (gone : (j i : ℕ) → has sets' j i ≡ (has sets j i && not (eqb j (at + k / 64) && eqb i (k % 64)))) where
  pub remove-out : member sets' at k ≡ false
  remove-out = gone (at + k / 64) (k % 64) ∙ ap (λ (b : Bool). has sets (at + k / 64) (k % 64) && not b) (own at k) ∙ but-all (has sets (at + k / 64) (k % 64))

  pub remove-word : (j i : ℕ) → (j ≡ at + k / 64 → ⊥) → has sets' j i ≡ has sets j i
  remove-word j i d = gone j i ∙ ap (λ (b : Bool). has sets j i && not b) (other_word at k j i d) ∙ but-none (has sets j i)

  pub remove-other : (p : ℕ) → (p ≡ k → ⊥) → member sets' at p ≡ member sets at p
  remove-other p d = gone (at + p / 64) (p % 64) ∙ ap (λ (b : Bool). member sets at p && not b) (other-number at k p d) ∙ but-none (member sets at p)
