-- The entries of a table, rule by rule: one that is replaced, and a table that is refreshed.
use Rattle.std.specs.Prelude.{if◌then◌else◌}
use Prim.Native.Nat.{ℕ, zero, suc, ◌+◌, ◌-◌, ◌*◌, ◌≤◌, ◌<◌, min}
use mathlib.Core.Path.{◌≡◌, refl, sym, ap, ap₂, ◌∙◌}
use mathlib.Core.List.{List, [], ◌∷◌, ◌++◌}
use native.Mathlib.Omega.{arith}
use native.Mathlib.Nat.{min-le_left}
use lib.ListN.{length, get_or, take, drop, length-append, length-take, length-drop, get_or-append}
use lib.ListN.{take-append-drop}
use lib.Seq.{ext_get_or, get_or-take, get_or-drop, get_or-append-add, length-take-le, take_at, drop_at, drop-drop}
use Rattle.meaning.specs.declared.State.{State}
use Rattle.meaning.specs.Model.{Rule}
use Rattle.meaning.specs.Match.{entry_of}
use Rattle.meaning.specs.Refresh.{tests_marked, refresh}
use Rattle.laws.specs.BaseLaws.{by-lt}
use Rattle.layout.specs.Rows.{rows_in}
use Rattle.match_table.specs.Entries.{with_entry}
use Rattle.match_rest.specs.Rest.{entry_at}

-- ---- one entry replaced

module _ (table : List ℕ) (k : ℕ) (nine : List ℕ) (l : length nine ≡ 9) (room : 9 * k + 9 ≤ length table) where
  start-size : length (take (9 * k) table) ≡ 9 * k
  start-size = length-take-le (9 * k) table (omega arith)

  pub with-length : length (with_entry table k nine) ≡ length table
  with-length =
      length-append (take (9 * k) table) (nine ++ drop (9 * k + 9) table)
      ∙ omega (arith, start-size, length-append nine (drop (9 * k + 9) table), length-drop (9 * k + 9) table)

  pub entry-own : entry_at (with_entry table k nine) k ≡ nine
  entry-own = ap (take 9) (drop_at (take (9 * k) table) (nine ++ drop (9 * k + 9) table) (9 * k) start-size) ∙ take_at nine (drop (9 * k + 9) table) 9 l

  word-before : (i : ℕ) → i < 9 * k → get_or (with_entry table k nine) i 0 ≡ get_or table i 0
  word-before i h =
      get_or-append (take (9 * k) table) (nine ++ drop (9 * k + 9) table) 0 i (omega (arith, start-size)) ∙ get_or-take (9 * k) table i 0 h

  word_after : (i : ℕ) → 9 * k + 9 ≤ i → get_or (with_entry table k nine) i 0 ≡ get_or table i 0
  word_after i h =
      let d : ℕ = i - (9 * k + 9) in
      let e : i ≡ length (take (9 * k) table) + (length nine + (i - (9 * k + 9))) = omega (arith, start-size) in
      let f : 9 * k + 9 + (i - (9 * k + 9)) ≡ i = omega arith in
      ap (λ (j : ℕ). get_or (with_entry table k nine) j 0) e
      ∙ get_or-append-add (take (9 * k) table) (nine ++ drop (9 * k + 9) table) (length nine + (i - (9 * k + 9))) 0
      ∙ get_or-append-add nine (drop (9 * k + 9) table) (i - (9 * k + 9)) 0
      ∙ get_or-drop (9 * k + 9) table (i - (9 * k + 9)) 0
      ∙ ap (λ (j : ℕ). get_or table j 0) f

  pub other_word : (j i : ℕ) → (j ≡ k → ⊥) → i < 9 → get_or (with_entry table k nine) (9 * j + i) 0 ≡ get_or table (9 * j + i) 0
  other_word j i d h = by-lt j k (λ g. word-before (9 * j + i) (omega arith)) (λ g. word_after (9 * j + i) (omega (arith, d)))

  pub entry_other : (j : ℕ) → (j ≡ k → ⊥) → entry_at (with_entry table k nine) j ≡ entry_at table j
  entry_other j d =
      ext_get_or 0 (entry_at (with_entry table k nine) j) (entry_at table j)
      (length-take 9 (drop (9 * j) (with_entry table k nine)) ∙ ap (min 9) (length-drop (9 * j) (with_entry table k nine)
      ∙ ap (λ (n : ℕ). n - 9 * j) with-length ∙ sym (length-drop (9 * j) table))
      ∙ sym (length-take 9 (drop (9 * j) table)))
      (λ i h.
      let low : i < 9 = omega (arith, length-take 9 (drop (9 * j) (with_entry table k nine)), min-le_left 9 (length (drop (9 * j) (with_entry table k nine)))) in
      get_or-take 9 (drop (9 * j) (with_entry table k nine)) i 0 low ∙ get_or-drop (9 * j) (with_entry table k nine) i 0 ∙ other_word j i d low ∙ sym (get_or-drop (9 * j) table i 0)
      ∙ sym (get_or-take 9 (drop (9 * j) table) i 0 low))

  pub first-own : get_or (with_entry table k nine) (9 * k) 0 ≡ get_or nine 0 0
  first-own = sym (first_of (with_entry table k nine)) ∙ ap (λ (m : List ℕ). get_or m 0 0) entry-own
    where
      first_of : (t : List ℕ) → get_or (entry_at t k) 0 0 ≡ get_or t (9 * k) 0
      first_of t = let e : 9 * k + 0 ≡ 9 * k = omega arith in get_or-take 9 (drop (9 * k) t) 0 0 (omega arith) ∙ get_or-drop (9 * k) t 0 0 ∙ ap (λ (i : ℕ). get_or t i 0) e

  pub first-other : (j : ℕ) → (j ≡ k → ⊥) → get_or (with_entry table k nine) (9 * j) 0 ≡ get_or table (9 * j) 0
  first-other j d = let e : 9 * j + 0 ≡ 9 * j = omega arith in rw e at (other_word j 0 d (omega arith))

-- ---- a table that is refreshed, entry by entry

entry-later : (t : List ℕ) (k : ℕ) → entry_at (drop 9 t) k ≡ entry_at t (k + 1)
entry-later t k = let e : 9 + 9 * k ≡ 9 * (k + 1) = omega arith in let f : 9 * k + 9 ≡ 9 * (k + 1) = omega arith in ap (take 9) (drop-drop (9 * k) 9 t ∙ ap (λ (i : ℕ). drop i t) e)

module _ (rule : ℕ → Rule) (s : State) (mark : ℕ) where
  from : (n i : ℕ) (table table' : List ℕ) → length table' ≡ 9 * n
      → ((k : ℕ) → k < n → entry_at table' k ≡ (if tests_marked mark (rule (i + k)) then entry_of (rule (i + k)) s else entry_at table k))
      → table' ≡ refresh (rows_in rule i n) s mark table
  unfolding refresh rows_in
  from zero i table [] l all = refl
  from zero i table (x ∷ t) l all = absurd (omega arith)
  from (suc n) i table table' l all =
      let z : i + 0 ≡ i = omega arith in
      let whole : take 9 table' ++ drop 9 table' ≡ table' = take-append-drop 9 table' in
      let here : take 9 table' ≡ (if tests_marked mark (rule i) then entry_of (rule i) s else take 9 table) = rw z at (all 0 (omega arith)) in
      let rest : drop 9 table' ≡ refresh (rows_in rule (i + 1) n) s mark (drop 9 table) =
      from n (i + 1) (drop 9 table) (drop 9 table') (omega (arith, length-drop 9 table'))
      (λ k h. let e : i + 1 + k ≡ i + (k + 1) = omega arith in rw (e, entry-later table k) (entry-later table' k ∙ all (k + 1) (omega arith))) in
      sym whole ∙ ap₂ (λ (a b : List ℕ). a ++ b) here rest

  pub refresh-is : (n : ℕ) (table table' : List ℕ) → length table' ≡ 9 * n
      → ((k : ℕ) → k < n → entry_at table' k ≡ (if tests_marked mark (rule k) then entry_of (rule k) s else entry_at table k)) → table' ≡ refresh (rows_in rule 0 n) s mark table
  refresh-is n table table' l all = from n 0 table table' l (λ k h. let e : 0 + k ≡ k = omega arith in rw e (all k h))
