-- A walk over the bits of a number, from the lowest that is set to the next: each is dropped as it is passed.
use Prim.Native.Nat.{ℕ, zero, suc, ◌+◌, ◌/◌, ◌%◌, ◌^◌, ◌≤◌, ◌<◌}
use mathlib.Core.Path.{◌≡◌, refl, sym, ap, ◌∙◌}
use mathlib.Core.Bool.{Bool, true, false, ◌&&◌, not}
use native.Mathlib.Omega.{arith}
use native.Mathlib.Numerals.{add-one}
use native.Mathlib.Decide.{ℕ_discrete}
use lib.Dec.{eqb}
use lib.Pow.{field, mod-mod-pow}
use borrow.Author.Tests.{eq-eqb, ne_eqb}
use Rattle.meaning.specs.Base.{bit}
use Rattle.laws.specs.BaseLaws.{bit-zero, by-lt, no_true}
use Rattle.match_sets.specs.Sets.{Dropped}
use Rattle.match_sets.proofs.BitLaws.{but-none, but-all, bit_high}

-- the low bits of a number
pub bit-low : (k x j : ℕ) → j < k → bit (x % 2 ^ k) j ≡ bit x j
bit-low zero x j h = absurd (omega arith)
bit-low (suc k) x zero h = let e : x % 2 ^ suc k % 2 ≡ x % 2 = rw (← add-one k) (mod-mod-pow x k 1) in rw e
bit-low (suc k) x (suc j) h = let e : x % 2 ^ suc k / 2 ≡ x / 2 % 2 ^ k = rw (← add-one k) (field x k 1) in rw e (bit-low k (x / 2) j (omega arith))

-- a bit of a number below 2 to the power k is below k
pub bit_below : (k x j : ℕ) → x < 2 ^ k → bit x j ≡ true → j < k
bit_below k x j h b = by-lt j k (λ l. l) (λ l. absurd (no_true (sym b ∙ bit_high k x j h l)))

-- what is left of x when its bits below `at` are passed
pub record Left (x at rest : ℕ) : Type 0 where
  pub passed : (j : ℕ) → j < at → bit rest j ≡ false
  pub ahead : (j : ℕ) → at ≤ j → bit rest j ≡ bit x j

-- a walk over the bits of x: what is done holds of those below `at`
pub record Walk (x bound : ℕ) (done : ℕ → Type 0) (rest : ℕ) : Type 0 where
  pub at : ℕ
  pub low : at ≤ bound
  pub left : Left x at rest
  pub so : done at

pub walk_begins : (x bound : ℕ) (done : ℕ → Type 0) → done 0 → Walk x bound done x
walk_begins x bound done d = record { at = 0; low = omega arith; left = record { passed = λ j h. absurd (omega arith); ahead = λ j h. refl }; so = d }

module _ {x bound rest : ℕ} {done : ℕ → Type 0} (w : Walk x bound done rest) where
  -- nothing is left, so x has no bit from there on
  pub walk_ends : rest ≡ 0 → (j : ℕ) → w.at ≤ j → bit x j ≡ false
  walk_ends e j h = sym (w.left.ahead j h) ∙ ap (λ (r : ℕ). bit r j) e ∙ bit-zero j

  module _ (z : ℕ) where
    -- below the lowest that is left, x has none from there on
    pub walk_none : ((j : ℕ) → j < z → bit rest j ≡ false) → (j : ℕ) → w.at ≤ j → j < z → bit x j ≡ false
    walk_none none j h g = sym (w.left.ahead j h) ∙ none j g

    module _ (b : bit rest z ≡ true) where
      -- a bit that is left is ahead, and is one of x
      pub walk-ahead : w.at ≤ z
      walk-ahead = by-lt z w.at (λ h. absurd (no_true (sym b ∙ w.left.passed z h))) (λ h. h)

      pub walk_here : bit x z ≡ true
      walk_here = sym (w.left.ahead z walk-ahead) ∙ b

      module _ (none : (j : ℕ) → j < z → bit rest j ≡ false) (rest' : ℕ) (dropped : Dropped rest rest') where
        passed-now : (j : ℕ) → j < z + 1 → bit rest' j ≡ false
        passed-now j h =
            dropped z j b none
            ∙ elim (ℕ_discrete j z) [
              | yes e ↦ ap (λ (y : Bool). bit rest j && not y) (eq-eqb j z e) ∙ but-all (bit rest j)
              | no e ↦ ap (λ (y : Bool). y && not (eqb j z)) (none j (omega arith))
            ]

        ahead-now : (j : ℕ) → z + 1 ≤ j → bit rest' j ≡ bit x j
        ahead-now j h =
            dropped z j b none
            ∙ ap (λ (y : Bool). bit rest j && not y) (ne_eqb j z (λ e. omega arith))
            ∙ but-none (bit rest j)
            ∙ w.left.ahead j (omega (arith, walk-ahead))

        pub walk-goes-on : {now : ℕ → Type 0} → z < bound → now (z + 1) → Walk x bound now rest'
        walk-goes-on low d = record { at = z + 1; low = omega arith; left = record { passed = passed-now; ahead = ahead-now }; so = d }
