-- Laws of queries: one against the words of its buffer, a loop over those of a rule, and the word that tells that one does not hold.
use Rattle.std.specs.Prelude.{if◌then◌else◌}
use Prim.Native.Nat.{ℕ, zero, suc, ◌+◌, ◌-◌, ◌*◌, ◌/◌, ◌%◌, ◌≤◌, ◌<◌}
use mathlib.Core.Path.{◌≡◌, refl, sym, ap, ◌∙◌}
use mathlib.Core.Bool.{Bool, true, false, ◌&&◌, not, and-false}
use mathlib.Core.List.{List}
use native.Mathlib.Omega.{arith}
use native.Mathlib.Decide.{ℕ_discrete}
use lib.Dec.{eqb}
use lib.ListN.{get_or, replicate}
use borrow.Author.Tests.{eq-eqb, ne_eqb}
use Rattle.meaning.specs.declared.State.{State}
use Rattle.meaning.specs.Base.{every}
use Rattle.meaning.specs.Model.{Rule, Query, Ask, busy, free, error}
use Rattle.meaning.specs.State.{nothing, buffer_of}
use Rattle.meaning.specs.Image.{ask_of}
use Rattle.meaning.specs.Match.{answers, queries_hold, entry_of}
use Rattle.laws.specs.BaseLaws.{no_true, and_left, and_right}
use Rattle.layout.specs.Rows.{rows_in, tests_in, query_by, queries_at}
use Rattle.layout.specs.StateWords.{buffer_in, buffers_in, state_in}
use Rattle.layout.proofs.RowLaws.{rows_left}
use Rattle.layout.proofs.StateLaws.{buffer-is}
use Rattle.match_rule.specs.Run.{Run, stop, on, then_on, tests_run, no_vars, entry_words}
use Rattle.match_rule.specs.Words.{StandsAt}
use Rattle.match_rule.specs.declared.Tried.TheVariants.{Hit, Differs, Varies}
use Rattle.match_rule.specs.Shut.{asked, is_hit, delay_of, Shuts, Differing, Because}
use Rattle.match_rule.proofs.Link.{entry-words}

-- ---- a query against the words of its buffer

-- what a query asks of buffer b
abbrev pub answered : Ask → List ℕ → ℕ → Bool
answered a st b = answers a (buffer_in st b)

pub asked-hit : (a : Ask) (st : List ℕ) (b : ℕ) → is_hit (asked a (11 * b) st) ≡ answered a st b
asked-hit busy st b = elim (eqb (get_or st (11 * b + 9) 0) 0) as (λ t. is_hit (if t then Varies else Hit) ≡ not t) [ true ↦ refl | false ↦ refl ]
asked-hit free st b = elim (eqb (get_or st (11 * b + 9) 0) 0) as (λ t. is_hit (if t then Hit else Differs (11 * b + 9) 0) ≡ t) [ true ↦ refl | false ↦ refl ]
asked-hit error st b =
    let flag : Bool = eqb (get_or st (11 * b + 10) 0) 1 in
    elim (eqb (get_or st (11 * b + 9) 0) 0) as (λ t. is_hit (if t then (if flag then Hit else Differs (11 * b + 10) 1) else Differs (11 * b + 9) 0) ≡ (t && flag)) [
      | true ↦ elim flag as (λ t. is_hit (if t then Hit else Differs (11 * b + 10) 1) ≡ t) [ true ↦ refl | false ↦ refl ]
      | false ↦ refl
    ]

-- ---- what `ask` finds, by the kind and the delay

pub asks-error : (kind : ℕ) → (kind ≡ 0 → ⊥) → (kind ≡ 1 → ⊥) → ask_of kind ≡ error
asks-error zero z o = absurd (z refl)
asks-error (suc zero) z o = absurd (o refl)
asks-error (suc (suc kind)) z o = refl

-- neither a free buffer nor one in error is pending
pub asked-pending : (kind p : ℕ) (st : List ℕ) → (kind ≡ 0 → ⊥) → (get_or st (p + 9) 0 ≡ 0 → ⊥) → Differs (p + 9) 0 ≡ asked (ask_of kind) p st
asked-pending zero p st z d = absurd (z refl)
asked-pending (suc zero) p st z d = rw (ne_eqb (get_or st (p + 9) 0) 0 d)
asked-pending (suc (suc kind)) p st z d = rw (ne_eqb (get_or st (p + 9) 0) 0 d)

-- ---- a loop over queries: those from i on are left

abbrev pub queries_from : List ℕ → ℕ → ℕ → ℕ → List Query
queries_from w o i n = rows_in (λ k. query_by (get_or w (o + k) 0)) i n

module _ (w st : List ℕ) (clock o m i : ℕ) where
  abbrev left : Bool
  left = queries_hold (queries_from w o i (m - i)) (state_in st clock)

  pub queries-end : m ≤ i → left ≡ true
  unfolding rows_in
  queries-end h = let e : m - i ≡ 0 = omega arith in rw e

  module _ (h : i < m) where
    abbrev query : ℕ
    query = get_or w (o + i) 0

    -- the query at i holds, so those after it tell
    pub queries-turn : answered (ask_of (query / 8)) st (query % 8) ≡ true → queries_hold (queries_from w o (i + 1) (m - (i + 1))) (state_in st clock) ≡ left
    queries-turn holds =
        let e : m - i + i ≡ m = omega arith in
        rw (rows_left (λ k. query_by (get_or w (o + k) 0)) i m h (m - i) e, buffer-is st (query % 8) (omega arith), holds)

-- ---- a query that does not hold shuts the rule

-- what passes of all rows passes of each
every-row : {A : Type 0} (p : A → Bool) (f : ℕ → A) (i m : ℕ) → every p (rows_in f i m) ≡ true → (k : ℕ) → k < m → p (f (i + k)) ≡ true
unfolding rows_in
every-row p f i zero e k l = absurd (omega arith)
every-row p f i (suc m) e zero l = let z : i + 0 ≡ i = omega arith in rw z (and_left (p (f i)) (every p (rows_in f (i + 1) m)) e)
every-row p f i (suc m) e (suc k) l =
    let z : i + suc k ≡ i + 1 + k = omega arith in
    rw z (every-row p f (i + 1) m (and_right (p (f i)) (every p (rows_in f (i + 1) m)) e) k (omega arith))

module _ (w : List ℕ) (o i : ℕ) (h : i < get_or w (o + 88) 0) where
  abbrev this : ℕ
  this = get_or w (o + 89 + i) 0

  pub refused : (st : List ℕ) (clock : ℕ) → answered (ask_of (this / 8)) st (this % 8) ≡ false → queries_hold (queries_at w o) (state_in st clock) ≡ false
  refused st clock fails =
      let s : State = state_in st clock in
      (elim (queries_hold (queries_at w o) (state_in st clock)) as (λ t. queries_hold (queries_at w o) (state_in st clock) ≡ t → t ≡ false) [
        | true ↦ λ e.
            let z : 0 + i ≡ i = omega arith in
            let here : answers (ask_of (this / 8)) (get_or (buffers_in st) (this % 8) nothing) ≡ true =
            rw z at (every-row (λ q. answers q.asks (buffer_of s q.buffer)) (λ k. query_by (get_or w (o + 89 + k) 0)) 0 (get_or w (o + 88) 0) e i h) in
            absurd (no_true (sym (rw (buffer-is st (this % 8) (omega arith)) at here) ∙ fails))
        | false ↦ λ e. refl
      ]) refl

  module _ (n : ℕ) where
    shut : (st : List ℕ) (clock : ℕ) (r : Rule) → StandsAt r w o n → answered (ask_of (this / 8)) st (this % 8) ≡ false → entry_of r (state_in st clock) ≡ replicate 9 0
    shut st clock r e fails =
        let run : Run = tests_run (buffers_in st) (tests_in w o n) no_vars in
        sym (entry-words w o n r (state_in st clock) e)
        ∙ ap (λ (t : Bool). entry_words (then_on run (λ v. if t then on v else stop))) (refused st clock fails)
        ∙ (elim run as (λ u. entry_words (then_on u (λ v. stop)) ≡ replicate 9 0) [ stop ↦ refl | on v ↦ refl ])

-- ---- and the word at which it was given up tells it

module _ (w : List ℕ) (o n b : ℕ) (low : b < 8) (a : Ask)
    (shut : (st : List ℕ) (clock : ℕ) (r : Rule) → StandsAt r w o n → answered a st b ≡ false → entry_of r (state_in st clock) ≡ replicate 9 0) where
  -- of what fails while the buffer is pending
  module _ (fails : (st : List ℕ) → (get_or st (11 * b + 9) 0 ≡ 0 → ⊥) → answered a st b ≡ false) where
    while-pending : (place : ℕ) → place / 11 ≡ b → (r : Rule) → StandsAt r w o n → Shuts r (delay_of place) 0
    while-pending place is r e = rw is (λ st clock z. shut st clock r e (fails st z))

    by-delay : (st : List ℕ) → (get_or st (11 * b + 9) 0 ≡ 0 → ⊥) → Differing w o n st (11 * b + 9) 0
    by-delay st z =
        record {
          low = omega arith;
          differs = z;
          flag = λ f. omega arith;
          shuts = λ r e st clock d. shut st clock r e (fails st d);
          hidden = while-pending (11 * b + 9) (omega arith);
        }

    by_flag : ((st : List ℕ) → (get_or st (11 * b + 10) 0 ≡ 1 → ⊥) → answered a st b ≡ false)
        → (st : List ℕ) → (get_or st (11 * b + 10) 0 ≡ 1 → ⊥) → Differing w o n st (11 * b + 10) 1
    by_flag clear st z =
        record {
          low = omega arith;
          differs = z;
          flag = λ f. refl;
          shuts = λ r e st clock d. shut st clock r e (clear st d);
          hidden = while-pending (11 * b + 10) (omega arith);
        }

because : (w : List ℕ) (o n b : ℕ) → b < 8 → (a : Ask) (st : List ℕ)
    → ((st : List ℕ) (clock : ℕ) (r : Rule) → StandsAt r w o n → answered a st b ≡ false → entry_of r (state_in st clock) ≡ replicate 9 0) → Because (asked a (11 * b) st) w o n st
because w o n b low busy st shut =
    elim (eqb (get_or st (11 * b + 9) 0) 0) as (λ t. Because (if t then Varies else Hit) w o n st) [ true ↦ tt | false ↦ tt ]
because w o n b low free st shut =
    elim (ℕ_discrete (get_or st (11 * b + 9) 0) 0) [
      | yes d ↦ rw (eq-eqb (get_or st (11 * b + 9) 0) 0 d) tt
      | no d ↦ rw (ne_eqb (get_or st (11 * b + 9) 0) 0 d) (by-delay w o n b low free shut (λ st z. ne_eqb (get_or st (11 * b + 9) 0) 0 z) st d)
    ]
because w o n b low error st shut =
    let hidden : (st : List ℕ) → (get_or st (11 * b + 9) 0 ≡ 0 → ⊥) → answered error st b ≡ false = λ st z. rw (ne_eqb (get_or st (11 * b + 9) 0) 0 z) in
    let clear : (st : List ℕ) → (get_or st (11 * b + 10) 0 ≡ 1 → ⊥) → answered error st b ≡ false
    = λ st z. rw (ne_eqb (get_or st (11 * b + 10) 0) 1 z) (and-false (eqb (get_or st (11 * b + 9) 0) 0)) in
    elim (ℕ_discrete (get_or st (11 * b + 9) 0) 0) [
      | yes d ↦ elim (ℕ_discrete (get_or st (11 * b + 10) 0) 1) [
        | yes f ↦ rw (eq-eqb (get_or st (11 * b + 9) 0) 0 d, eq-eqb (get_or st (11 * b + 10) 0) 1 f) tt
        | no f ↦ rw (eq-eqb (get_or st (11 * b + 9) 0) 0 d, ne_eqb (get_or st (11 * b + 10) 0) 1 f) (by_flag w o n b low error shut hidden clear st f)
      ]
      | no d ↦ rw (ne_eqb (get_or st (11 * b + 9) 0) 0 d) (by-delay w o n b low error shut hidden st d)
    ]

pub because-asked : (w st : List ℕ) (o i n : ℕ) → i < get_or w (o + 88) 0
    → Because (asked (ask_of (get_or w (o + 89 + i) 0 / 8)) (11 * (get_or w (o + 89 + i) 0 % 8)) st) w o n st
because-asked w st o i n h = because w o n (get_or w (o + 89 + i) 0 % 8) (omega arith) (ask_of (get_or w (o + 89 + i) 0 / 8)) st (shut w o i h n)
