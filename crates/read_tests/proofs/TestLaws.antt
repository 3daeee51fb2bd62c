-- A test, field by field, by what the code fetched; and the row that says it.
use Rattle.std.specs.Prelude.{Result, Ok, Err}
use Prim.Native.Nat.{ℕ, ◌%◌, ◌<◌}
use mathlib.Core.Path.{◌≡◌, refl, ap₂, ◌∙◌}
use mathlib.Core.List.{List, [], ◌∷◌}
use native.Mathlib.Omega.{arith}
use lib.ListN.{length, get_or, set, take}
use Rattle.meaning.specs.declared.reasons.Refusal.{Refusal}
use Rattle.meaning.specs.Numbers.{finer, bad_buffer, bad_number}
use Rattle.meaning.specs.Model.{Named, Test, Sizes}
use Rattle.meaning.specs.State.{slot_count}
use Rattle.meaning.specs.Read.{read_got, field, must}
use Rattle.meaning.specs.Image.{a_buffer, a_type, masked, test}
use Rattle.layout.specs.Rows.{masked_in, test_in}
use Rattle.layout.proofs.WordLaws.{below_get}
use Rattle.read_ranges.specs.Cursors.{Cursor}
use Rattle.read_ranges.specs.Reading.{told_by}

-- ---- the readings of a test, each from what was read before it

abbrev pub a_test : ℕ → ℕ → List Named → Test
a_test b k ns = record { buffer = b; isa = k; named = ns }

module _ (z : Sizes) (variables least : ℕ) (s : List ℕ) (p : ℕ) where
  pub test_on : (b q : ℕ) → read_got b q ≡ field 3 (must bad_buffer (a_buffer z.buffers least)) s p → (k o : ℕ) → read_got k o ≡ field 6 (must bad_number (a_type z.types 0)) s q
      → (r : Result Unit Refusal) (c : Cursor) (ns : List Named) → told_by (λ u. ns) r c ≡ masked finer variables (slot_count z.types k) s o
      → told_by (λ u. a_test b k ns) r c ≡ test finer z variables least s p
  unfolding test
  test_on b q e₁ k o e₂ (Ok u) c ns e = rw (← e₁, ← e₂, ← e)
  test_on b q e₁ k o e₂ (Err r) c ns e = rw (← e₁, ← e₂, ← e)

-- ---- the row of a test says that test: its first two words were written, and stayed while the mask and its terms were

first_two : (row : List ℕ) (b k : ℕ) → length row ≡ 11 → let w = set (set row 0 b) 1 k in (get_or w 0 0 ≡ b) × (get_or w 1 0 ≡ k)
first_two [] b k e = absurd (omega arith)
first_two (x ∷ []) b k e = absurd (omega arith)
first_two (x ∷ y ∷ row) b k e = (refl, refl)

pub test-row : (row row' : List ℕ) (b k : ℕ) → length row ≡ 11 → b < 8 → take 2 row' ≡ take 2 (set (set row 0 b) 1 k) → test_in row' 0 ≡ a_test b k (masked_in row' 0)
test-row row row' b k long h e =
    let w : List ℕ = set (set row 0 b) 1 k in
    let two = first_two row b k long in
    let first : get_or row' 0 0 % 8 ≡ b = omega (arith, below_get 2 w row' e 0 (omega arith), two.0) in
    ap₂ (λ (x y : ℕ). a_test x y (masked_in row' 0)) first (below_get 2 w row' e 1 (omega arith) ∙ two.1)
