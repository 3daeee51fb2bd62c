-- Tables rule by rule: what a refresh writes, and what it leaves.
use Rattle.std.specs.Prelude.{if◌then◌else◌, ◌≡◌, Bool, true, false, ℕ, suc, ◌+◌, ◌*◌, ◌^◌, ◌≤◌, eqb, leb, length, take, drop}
use Rattle.std.proofs.Math.Path.{refl, sym, ap₂}
use Rattle.std.proofs.Common.{ap, ◌∙◌, arith, length-take, take_at, drop_at, drop-drop, eqb-true}
use mathlib.Core.List.{List, [], ◌∷◌, ◌++◌}
use Rattle.std.proofs.Math.ListN.{length-append, length-drop}
use Rattle.meaning.specs.declared.State.{State}
use Rattle.meaning.specs.Numbers.{wrong_table}
use Rattle.meaning.specs.Model.{Model, Rule}
use Rattle.meaning.specs.State.{well_formed}
use Rattle.meaning.specs.Read.{read_refused, read_got}
use Rattle.meaning.specs.Image.{decode}
use Rattle.meaning.specs.Match.{entry_of}
use Rattle.meaning.specs.Refresh.{tests_marked, refresh, refresh_count}
use Rattle.meaning.specs.Calls.{accepted, Refreshed, refreshed_by, refresh_of}
use Rattle.laws.specs.MatchLaws.{entry_length}
use Rattle.promises.specs.Words.{At, first, next, entry_at, RefreshedTo}

-- what a refresh writes for one rule
abbrev renewed : Rule → State → ℕ → List ℕ → List ℕ
renewed r s mark table = if tests_marked mark r then entry_of r s else take 9 table

renewed-length : (r : Rule) (s : State) (mark : ℕ) (table : List ℕ) → 9 ≤ length table → length (renewed r s mark table) ≡ 9
renewed-length r s mark table h =
    elim (tests_marked mark r) as (λ t. length (if t then entry_of r s else take 9 table) ≡ 9) [
      | true ↦ entry_length r s
      | false ↦ simp length-take (omega arith)
    ]

rest-length : (r : Rule) (rs : List Rule) (table : List ℕ) → length table ≡ 9 * length (r ∷ rs) → length (drop 9 table) ≡ 9 * length rs
rest-length r rs table e = simp length-drop (omega arith)

-- the entry of the first rule, and of one after it
pub entry_first : (xs ys : List ℕ) → length xs ≡ 9 → entry_at 0 (xs ++ ys) ≡ xs
entry_first xs ys l = take_at xs ys 9 l

pub entry_next : (k : ℕ) (xs ys : List ℕ) → length xs ≡ 9 → entry_at (suc k) (xs ++ ys) ≡ entry_at k ys
entry_next k xs ys l =
    let e : 9 * suc k ≡ 9 + 9 * k = omega arith in
    ap (λ (n : ℕ). take 9 (drop n (xs ++ ys))) e ∙ ap (take 9) (sym (drop-drop (9 * k) 9 (xs ++ ys)) ∙ ap (drop (9 * k)) (drop_at xs ys 9 l))

pub entry-later : (k : ℕ) (table : List ℕ) → entry_at (suc k) table ≡ entry_at k (drop 9 table)
entry-later k table =
    let e : 9 * suc k ≡ 9 + 9 * k = omega arith in
    ap (λ (n : ℕ). take 9 (drop n table)) e ∙ ap (take 9) (sym (drop-drop (9 * k) 9 table))

module _ (s : State) (mark : ℕ) where
  refresh-fresh-at : (r : Rule) {k : ℕ} {rules : List Rule} → At r k rules → (table : List ℕ) → length table ≡ 9 * length rules
      → tests_marked mark r ≡ true → entry_at k (refresh rules s mark table) ≡ entry_of r s
  unfolding refresh
  refresh-fresh-at r (first {xs = rs}) table l t =
      entry_first (renewed r s mark table) (refresh rs s mark (drop 9 table)) (renewed-length r s mark table (omega arith)) ∙ rw t refl
  refresh-fresh-at r (next {k} {y = q} {xs = rs} h) table l t =
      entry_next k (renewed q s mark table) (refresh rs s mark (drop 9 table)) (renewed-length q s mark table (omega arith))
      ∙ refresh-fresh-at r h (drop 9 table) (rest-length q rs table l) t

  refresh-left-at : (r : Rule) {k : ℕ} {rules : List Rule} → At r k rules → (table : List ℕ) → length table ≡ 9 * length rules
      → tests_marked mark r ≡ false → entry_at k (refresh rules s mark table) ≡ entry_at k table
  unfolding refresh
  refresh-left-at r (first {xs = rs}) table l t =
      entry_first (renewed r s mark table) (refresh rs s mark (drop 9 table)) (renewed-length r s mark table (omega arith)) ∙ rw t refl
  refresh-left-at r (next {k} {y = q} {xs = rs} h) table l t =
      entry_next k (renewed q s mark table) (refresh rs s mark (drop 9 table)) (renewed-length q s mark table (omega arith))
      ∙ refresh-left-at r h (drop 9 table) (rest-length q rs table l) t
      ∙ sym (entry-later k table)

  refresh-long : (rules : List Rule) (table : List ℕ) → length table ≡ 9 * length rules → length (refresh rules s mark table) ≡ length table
  unfolding refresh
  refresh-long [] table l = sym l
  refresh-long (r ∷ rs) table l =
      length-append (renewed r s mark table) (refresh rs s mark (drop 9 table))
      ∙ ap₂ (λ (x y : ℕ). x + y) (renewed-length r s mark table (omega arith)) (refresh-long rs (drop 9 table) (rest-length r rs table l))
      ∙ simp length-drop (omega arith)

pub refresh-made : (rules : List Rule) (s : State) (mark : ℕ) (table : List ℕ) → length table ≡ 9 * length rules
    → RefreshedTo rules s mark table (refresh rules s mark table) (refresh_count rules mark)
unfolding refresh_count
refresh-made rules s mark table l =
    record {
      fresh = λ k r h t. refresh-fresh-at s mark r h table l t;
      unaltered = λ k r h t. refresh-left-at s mark r h table l t;
      as_long = refresh-long s mark rules table l;
      counted = refl;
    }

-- ---- the call

refreshed-by : (s : State) (mark : ℕ) (table : List ℕ) (m : Model) (at : ℕ) (t u v : Bool) → eqb (length table) (9 * length m.rules) ≡ t → well_formed m s ≡ u → leb (2 ^ m.buffers) mark ≡ v
    → (refreshed_by s mark table (if t then read_got m at else read_refused wrong_table 0)).number ≡ 0
    → let a : Refreshed = refreshed_by s mark table (if t then read_got m at else read_refused wrong_table 0) in RefreshedTo m.rules s mark table a.table a.count
refreshed-by s mark table m at true true true l w b e = absurd (omega (arith, rw (w, b) at e))
refreshed-by s mark table m at true true false l w b e = rw (w, b) (refresh-made m.rules s mark table (eqb-true (length table) (9 * length m.rules) l))
refreshed-by s mark table m at true false v l w b e = absurd (omega (arith, rw w at e))
refreshed-by s mark table m at false u v l w b e = absurd (omega arith)

pub call-made : (image : List ℕ) (m : Model) (at : ℕ) → decode image ≡ read_got m at → (s : State) (mark : ℕ) (table : List ℕ) → (refresh_of image s mark table).number ≡ 0
    → RefreshedTo m.rules s mark table (refresh_of image s mark table).table (refresh_of image s mark table).count
unfolding refresh_of accepted
call-made image m at d s mark table e =
    rw d (refreshed-by s mark table m at (eqb (length table) (9 * length m.rules)) (well_formed m s) (leb (2 ^ m.buffers) mark) refl refl refl (rw d at e))
