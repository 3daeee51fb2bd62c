-- The kind of an action and what follows it, by what the code fetched.
use Rattle.std.specs.Prelude.{Result, Ok, Err}
use Rattle.meaning.specs.declared.reasons.Refusal.{Refusal}
use Prim.Native.Nat.{ℕ, ◌≤◌, ◌<◌}
use mathlib.Core.Path.{◌≡◌, refl, sym}
use mathlib.Core.Bool.{true, false, ◌&&◌}
use mathlib.Core.List.{List}
use native.Mathlib.Omega.{arith}
use lib.Dec.{leb, ltb}
use lib.ListN.{length, get_or}
use borrow.Author.Tests.{leb-true, lt-leb, lt-ltb, ne_eqb}
use Rattle.meaning.specs.Numbers.{finer, bad_number, bad_buffer}
use Rattle.meaning.specs.Model.{Test, Deed, deed_modify, deed_request, Sizes}
use Rattle.meaning.specs.Read.{Read, read_refused, read_got, follow, field, must}
use Rattle.meaning.specs.Image.{anything, a_type, kind_rule, is_tested, tested_type, masked, deed}
use Rattle.laws.specs.BaseLaws.{and_left}
use Rattle.laws.specs.BitsLaws.{field_at-lt}
use Rattle.laws.specs.ReadLaws.{FieldRead, field-got, must-kept}
use Rattle.layout.specs.Rows.{masked_in}
use Rattle.read_ranges.proofs.Judged.{missing, kept, broken}
use Rattle.read_ranges.specs.Cursors.{Cursor}
use Rattle.read_ranges.specs.Reading.{told_by}
use Rattle.read_deeds.specs.Deeds.{says, kind_and_deed}

-- ---- the rule of the kind

module _ (ts : List Test) (b : ℕ) where
  pub modify-kept : is_tested ts b ≡ true → kind_rule finer ts b 0 ≡ 0
  modify-kept e = rw e

  pub modify-broken : is_tested ts b ≡ false → kind_rule finer ts b 0 ≡ bad_buffer
  modify-broken e = rw e

  pub kind-big : (kind : ℕ) → 2 < kind → kind_rule finer ts b kind ≡ bad_number
  kind-big kind h = rw (lt-leb kind 2 h)

-- ---- the kind, and what follows it

module _ (z : Sizes) (variables : ℕ) (ts : List Test) (b : ℕ) (s : List ℕ) (p : ℕ) where
  -- a kind that keeps its rule, and what it asks
  pub kind-kept : (d : Read Deed) (kind n q : ℕ) → read_got kind q ≡ field 2 anything s p → kind ≡ n → kind_rule finer ts b n ≡ 0 → d ≡ deed finer z variables ts b n s q
      → d ≡ kind_and_deed z variables ts b s p
  kind-kept d kind n q e i k g = let whole = kept 2 s p (kind_rule finer ts b) n q (rw i at e) k in rw (← whole) g

  pub kind-broken : (kind n q m : ℕ) → read_got kind q ≡ field 2 anything s p → kind ≡ n → kind_rule finer ts b n ≡ m → 0 < m → read_refused m p ≡ kind_and_deed z variables ts b s p
  kind-broken kind n q m e i k h = let whole = broken 2 s p (kind_rule finer ts b) n q m (rw i at e) k h in rw (← whole)

  pub kind-missing : (n x : ℕ) → read_refused n x ≡ field 2 anything s p → read_refused n x ≡ kind_and_deed z variables ts b s p
  kind-missing n x e = let whole = missing 2 s p (kind_rule finer ts b) n x e in rw (← whole)

  module _ (r : Result Unit Refusal) (c : Cursor) (row : List ℕ) where
    pub modify-says : (k : ℕ) → tested_type ts b ≡ k → get_or row 1 0 ≡ 0 → told_by (λ u. masked_in row 0) r c ≡ masked finer variables (get_or z.types k 0) s p
        → says r c row ≡ deed finer z variables ts b 0 s p
    unfolding deed
    modify-says k h d g = rw (h, d, ← g) (go r)
      where
        go : (r : Result Unit Refusal) → told_by (λ u. deed_modify (masked_in row 0)) r c ≡ follow (told_by (λ u. masked_in row 0) r c) (λ l q. read_got (deed_modify l) q)
        go (Ok u) = refl
        go (Err x) = refl

    pub request-says : (k q : ℕ) → read_got k q ≡ field 6 (must bad_number (a_type z.types 1)) s p → get_or row 1 0 ≡ k
        → told_by (λ u. masked_in row 0) r c ≡ masked finer variables (get_or z.types k 0) s q → says r c row ≡ deed finer z variables ts b 1 s p
    unfolding deed
    request-says k q e d g =
        let f : FieldRead 6 (must bad_number (a_type z.types 1)) s p k q = field-got 6 (must bad_number (a_type z.types 1)) s p k q (sym e) in
        let low : 1 ≤ k = leb-true 1 k (and_left (leb 1 k) (ltb k (length z.types)) (must-kept 2 (leb 1 k && ltb k (length z.types)) f.kept)) in
        let high : k < 64 = omega (arith, f.is, field_at-lt s p 6) in
        let ne : k ≡ 0 → ⊥ = λ i. omega arith in
        rw (← e, d, ne_eqb k 0 ne, lt-ltb k 64 high, ← g) (go r)
      where
        go : (r : Result Unit Refusal) → told_by (λ u. deed_request k (masked_in row 0)) r c ≡ follow (told_by (λ u. masked_in row 0) r c) (λ l q. read_got (deed_request k l) q)
        go (Ok u) = refl
        go (Err x) = refl
