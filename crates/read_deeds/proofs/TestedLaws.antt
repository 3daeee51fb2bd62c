-- The type that tests name for a buffer: test by test, and what an answer says of it.
use Rattle.std.specs.Prelude.{if◌then◌else◌, Option, Some, None}
use Prim.Native.Nat.{ℕ, ◌+◌, ◌-◌, ◌≤◌, ◌<◌}
use mathlib.Core.Path.{◌≡◌, refl}
use mathlib.Core.Bool.{Bool, true, false}
use mathlib.Core.List.{List}
use native.Mathlib.Omega.{arith}
use borrow.Author.Tests.{eq-eqb, ne_eqb}
use Rattle.meaning.specs.Model.{Test}
use Rattle.meaning.specs.Image.{is_tested, tested_type}
use Rattle.layout.specs.Rows.{rows_in}
use Rattle.layout.proofs.RowLaws.{rows_left}
use Rattle.read_deeds.specs.Deeds.{tested_of}

-- ---- the loop over tests: those that are left at i say what all n say

module _ (test : ℕ → Test) (n b : ℕ) where
  unfoldable pub tested_from : ℕ → Option ℕ
  tested_from i = tested_of (rows_in test i (n - i)) b

  pub tested-start : tested_from 0 ≡ tested_of (rows_in test 0 n) b
  unfolding tested_from
  tested-start = let e : n - 0 ≡ n = omega arith in rw e

  pub tested-end : (i : ℕ) → n ≤ i → None ≡ tested_from i
  unfolding tested_from rows_in
  tested-end i h = let e : n - i ≡ 0 = omega arith in rw e

  module _ (i : ℕ) (h : i < n) where
    pub tested-here : (test i).buffer ≡ b → Some (test i).isa ≡ tested_from i
    unfolding tested_from
    tested-here e = rw (rows_left test i n h (n - i) (omega arith), eq-eqb (test i).buffer b e)

    pub tested-next : ((test i).buffer ≡ b → ⊥) → tested_from (i + 1) ≡ tested_from i
    unfolding tested_from
    tested-next e = rw (rows_left test i n h (n - i) (omega arith), ne_eqb (test i).buffer b e)

-- ---- what an answer says

type-says : (t : Bool) (x k : ℕ) → Some k ≡ (if t then Some x else None) → (t ≡ true) × (x ≡ k)
type-says true x k e = (refl, cc)
type-says false x k e = cc

none-says : (t : Bool) (x : ℕ) → None ≡ (if t then Some x else None) → t ≡ false
none-says true x e = cc
none-says false x e = refl

module _ (ts : List Test) (b : ℕ) where
  pub is-tested : (k : ℕ) → Some k ≡ tested_of ts b → is_tested ts b ≡ true
  is-tested k e = (type-says (is_tested ts b) (tested_type ts b) k e).0

  pub tested-is : (k : ℕ) → Some k ≡ tested_of ts b → tested_type ts b ≡ k
  tested-is k e = (type-says (is_tested ts b) (tested_type ts b) k e).1

  pub not_tested : None ≡ tested_of ts b → is_tested ts b ≡ false
  not_tested e = none-says (is_tested ts b) (tested_type ts b) e
