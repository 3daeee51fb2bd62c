-- The loops over the rules: the entries below k are done, and what is left of the table gives the rest.
use Prim.Native.Nat.{ℕ, ◌+◌, ◌-◌, ◌*◌, ◌≤◌, ◌<◌}
use mathlib.Core.Path.{◌≡◌, sym, ap, ap₂, ◌∙◌}
use mathlib.Core.Bool.{true, false}
use mathlib.Core.List.{List, ◌∷◌, ◌++◌, append-nil, append_assoc}
use native.Mathlib.Omega.{arith}
use lib.Bits.{bit_and}
use lib.ListN.{length, get_or, take, drop, length-append}
use lib.Seq.{length-take-le, take_at, drop_at, drop-drop, take-add, take_all}
use Rattle.meaning.specs.declared.State.{State}
use Rattle.meaning.specs.Model.{Rule}
use Rattle.meaning.specs.Match.{entry_of, fresh_table}
use Rattle.meaning.specs.Refresh.{tests_marked, refresh, refresh_count}
use Rattle.laws.specs.MatchLaws.{entry_length}
use Rattle.laws.specs.RefreshLaws.{meets, misses}
use Rattle.layout.specs.Rows.{rows_in, rule_in, Laid}
use Rattle.layout.proofs.RowLaws.{rows_left}
use Rattle.match_table.specs.Entries.{with_entry, doing}

-- ---- a table with one entry anew

nine-more : (k : ℕ) → 9 * (k + 1) ≡ 9 * k + 9
nine-more k = omega arith

module _ (table : List ℕ) (k : ℕ) where
  -- the words up to an entry, and then the entry
  old-take : take (9 * (k + 1)) table ≡ take (9 * k) table ++ take 9 (drop (9 * k) table)
  old-take = ap (λ (j : ℕ). take j table) (nine-more k) ∙ take-add (9 * k) 9 table

  old-drop : drop 9 (drop (9 * k) table) ≡ drop (9 * (k + 1)) table
  old-drop = drop-drop 9 (9 * k) table ∙ ap (λ (j : ℕ). drop j table) (sym (nine-more k))

  module _ (nine : List ℕ) (l : length nine ≡ 9) (fits : 9 * k + 9 ≤ length table) where
    head-length : length (take (9 * k) table ++ nine) ≡ 9 * (k + 1)
    head-length = length-append (take (9 * k) table) nine ∙ ap₂ (λ (x y : ℕ). x + y) (length-take-le (9 * k) table (omega arith)) l ∙ sym (nine-more k)

    new_is : with_entry table k nine ≡ (take (9 * k) table ++ nine) ++ drop (9 * (k + 1)) table
    new_is = sym (append_assoc (take (9 * k) table) nine (drop (9 * k + 9) table)) ∙ ap (λ (j : ℕ). (take (9 * k) table ++ nine) ++ drop j table) (sym (nine-more k))

    new-take : take (9 * (k + 1)) (with_entry table k nine) ≡ take (9 * k) table ++ nine
    new-take = ap (take (9 * (k + 1))) new_is ∙ take_at (take (9 * k) table ++ nine) (drop (9 * (k + 1)) table) (9 * (k + 1)) head-length

    new-drop : drop (9 * (k + 1)) (with_entry table k nine) ≡ drop (9 * (k + 1)) table
    new-drop = ap (drop (9 * (k + 1))) new_is ∙ drop_at (take (9 * k) table ++ nine) (drop (9 * (k + 1)) table) (9 * (k + 1)) head-length

-- ---- the two loops, over any rules

module _ (rule : ℕ → Rule) (s : State) (n : ℕ) where
  -- all entries afresh: the entries below k are made
  unfoldable pub making : ℕ → List ℕ → List ℕ
  making k table = take (9 * k) table ++ fresh_table (rows_in rule k (n - k)) s

  pub making-start : (table : List ℕ) → making 0 table ≡ fresh_table (rows_in rule 0 n) s
  unfolding making
  making-start table = let e : n - 0 ≡ n = omega arith in rw e

  pub making-end : (k : ℕ) (table : List ℕ) → n ≤ k → length table ≡ 9 * n → making k table ≡ table
  unfolding making fresh_table rows_in
  making-end k table h l =
      let e : n - k ≡ 0 = omega arith in
      rw (e, take_all (9 * k) table (omega arith)) (append-nil table)

  pub doing-start : (mark : ℕ) (table : List ℕ) → doing rule s n mark 0 table ≡ refresh (rows_in rule 0 n) s mark table
  unfolding doing
  doing-start mark table = let e : n - 0 ≡ n = omega arith in rw e

  pub doing_end : (mark k : ℕ) (table : List ℕ) → n ≤ k → length table ≡ 9 * n → doing rule s n mark k table ≡ table
  unfolding doing refresh rows_in
  doing_end mark k table h l =
      let e : n - k ≡ 0 = omega arith in
      rw (e, take_all (9 * k) table (omega arith)) (append-nil table)

  module _ (k : ℕ) (h : k < n) (table : List ℕ) (fits : length table ≡ 9 * n) where
    first : rows_in rule k (n - k) ≡ rule k ∷ rows_in rule (k + 1) (n - (k + 1))
    first = let e : n - k + k ≡ n = omega arith in rows_left rule k n h (n - k) e

    room : 9 * k + 9 ≤ length table
    room = omega arith

    pub making-turn : (table' : List ℕ) → table' ≡ with_entry table k (entry_of (rule k) s) → making (k + 1) table' ≡ making k table
    unfolding making fresh_table
    making-turn table' e =
        let nine : List ℕ = entry_of (rule k) s in
        rw (e, first, new-take table k nine (entry_length (rule k) s) room) (append_assoc (take (9 * k) table) nine (fresh_table (rows_in rule (k + 1) (n - (k + 1))) s))

    pub doing-marked : (mark : ℕ) (table' : List ℕ) → tests_marked mark (rule k) ≡ true → table' ≡ with_entry table k (entry_of (rule k) s)
        → doing rule s n mark (k + 1) table' ≡ doing rule s n mark k table
    unfolding doing refresh
    doing-marked mark table' m e =
        let nine : List ℕ = entry_of (rule k) s in
        let rest : List ℕ = refresh (rows_in rule (k + 1) (n - (k + 1))) s mark (drop (9 * (k + 1)) table) in
        rw (e, first, m, new-take table k nine (entry_length (rule k) s) room, new-drop table k nine (entry_length (rule k) s) room, old-drop table k) (append_assoc (take (9 * k) table) nine rest)

    pub doing-other : (mark : ℕ) → tests_marked mark (rule k) ≡ false → doing rule s n mark (k + 1) table ≡ doing rule s n mark k table
    unfolding doing refresh
    doing-other mark m =
        let rest : List ℕ = refresh (rows_in rule (k + 1) (n - (k + 1))) s mark (drop (9 * (k + 1)) table) in
        rw (first, m, old-take table k, old-drop table k) (append_assoc (take (9 * k) table) (take 9 (drop (9 * k) table)) rest)

-- ---- the count

module _ (rule : ℕ → Rule) (mark n : ℕ) where
  -- counted so far, and what is left to count
  unfoldable pub counting : ℕ → ℕ → ℕ
  counting k c = c + refresh_count (rows_in rule k (n - k)) mark

  pub counting-start : counting 0 0 ≡ refresh_count (rows_in rule 0 n) mark
  unfolding counting
  counting-start = let e : n - 0 ≡ n = omega arith in rw e (omega arith)

  pub counting-end : (k c : ℕ) → n ≤ k → counting k c ≡ c
  unfolding counting refresh_count rows_in
  counting-end k c h = let e : n - k ≡ 0 = omega arith in rw e (omega arith)

  module _ (k c : ℕ) (h : k < n) where
    this : rows_in rule k (n - k) ≡ rule k ∷ rows_in rule (k + 1) (n - (k + 1))
    this = let e : n - k + k ≡ n = omega arith in rows_left rule k n h (n - k) e

    pub counting-marked : tests_marked mark (rule k) ≡ true → counting (k + 1) (c + 1) ≡ counting k c
    unfolding counting refresh_count
    counting-marked m = rw (this, m) (omega arith)

    pub counting-other : tests_marked mark (rule k) ≡ false → counting (k + 1) c ≡ counting k c
    unfolding counting refresh_count
    counting-other m = rw (this, m)

-- ---- the mark against the mask of the buffers that a rule tests or queries

module _ (heads words : List ℕ) (n k mark : ℕ) (laid : Laid heads words n) (h : k < n) where
  pub mark-meets : (bit_and (get_or heads (4 * k + 3) 0) mark ≡ 0 → ⊥) → tests_marked mark (rule_in heads words k) ≡ true
  mark-meets z = meets mark (get_or heads (4 * k + 3) 0) (rule_in heads words k) (laid.masks k h) z

  pub mark-misses : bit_and (get_or heads (4 * k + 3) 0) mark ≡ 0 → tests_marked mark (rule_in heads words k) ≡ false
  mark-misses e = misses mark (get_or heads (4 * k + 3) 0) (rule_in heads words k) (laid.masks k h) e
