-- Where a word of the state has not the value that a test wants, the tests are given up, whatever the variables are.
use Rattle.std.specs.Prelude.{if◌then◌else◌}
use Prim.Native.Nat.{ℕ, zero, suc, ◌+◌, ◌-◌, ◌*◌, ◌/◌, ◌%◌, ◌≤◌, ◌<◌}
use mathlib.Core.Path.{◌≡◌, refl, sym, ap, ◌∙◌}
use mathlib.Core.Bool.{Bool, true, false}
use mathlib.Core.List.{List}
use native.Mathlib.Omega.{arith}
use native.Mathlib.Decide.{ℕ_discrete}
use lib.ListN.{get_or, replicate}
use borrow.Author.Tests.{lt-ltb, le-ltb, ne_eqb}
use Rattle.meaning.specs.declared.Buffer.{Buffer}
use Rattle.meaning.specs.Model.{Rule}
use Rattle.meaning.specs.State.{nothing}
use Rattle.meaning.specs.Image.{names}
use Rattle.meaning.specs.Match.{queries_hold, entry_of}
use Rattle.laws.specs.BaseLaws.{by-lt}
use Rattle.layout.specs.Rows.{word_term, test_in, tests_in, queries_at}
use Rattle.layout.specs.StateWords.{buffers_in, state_in}
use Rattle.layout.proofs.StateLaws.{slot_is}
use Rattle.match_rule.specs.Run.{Vars, Run, stop, on, then_on, term_run, terms_run, test_run, tests_run, no_vars, entry_words}
use Rattle.match_rule.specs.Words.{StandsAt}
use Rattle.match_rule.specs.Shut.{delay_of, Shuts, Differing, why_of, Because}
use Rattle.match_rule.proofs.TestLaws.{left, tests_from, first, slot-skip, slot-on, slot-over}
use Rattle.match_rule.proofs.WordMatch.{flat-pending, flat-other, flat_on}
use Rattle.match_rule.proofs.Link.{entry-words}

-- ---- a slot that must have a symbol and has not

module _ (w xs : List ℕ) (q m b : ℕ) (h : b < 8) (named : names m b ≡ true) (symbol : get_or w (q + 3 + b) 0 < 4096) (differs : get_or xs b 0 ≡ get_or w (q + 3 + b) 0 → ⊥) where
  -- the slots from i on, of which slot b is one
  given-up : (d i : ℕ) → i + d ≡ b → (v : Vars) (k : Vars → Run) → then_on (terms_run xs (left w q m i) v) k ≡ stop
  unfolding term_run
  given-up zero i e v k =
      let same : i ≡ b = omega arith in
      rw same (sym (slot-over w xs q m b v k h named false v (rw (lt-ltb (get_or w (q + 3 + b) 0) 4096 symbol, ne_eqb (get_or xs b 0) (get_or w (q + 3 + b) 0) differs)) refl))
  given-up (suc d) i e v k =
      (elim (names m i) as (λ (t : Bool). names m i ≡ t → then_on (terms_run xs (left w q m i) v) k ≡ stop) [
        | true ↦ λ z. (
            elim (term_run (get_or xs i 0) (word_term (get_or w (q + 3 + i) 0)) v) as
            (λ (r : Run). r ≡ term_run (get_or xs i 0) (word_term (get_or w (q + 3 + i) 0)) v → then_on (terms_run xs (left w q m i) v) k ≡ stop) [
              | stop ↦ λ s. sym (slot-over w xs q m i v k (omega arith) z false v s refl)
              | on u ↦ λ s. sym (slot-on w xs q m i v k (omega arith) z true u s u refl refl) ∙ given-up d (i + 1) (omega arith) u k
            ]) refl
        | false ↦ λ z. sym (slot-skip w xs q m i v k (omega arith) v refl z) ∙ given-up d (i + 1) (omega arith) v k
      ]) refl

-- ---- a test that does not hold, with any variables

module _ (w st : List ℕ) (o n i q : ℕ) (at : q ≡ o + 11 * i) (h : i < n) where
  abbrev buffer : ℕ
  buffer = get_or w q 0 % 8

  -- what the tests from this one on come to
  abbrev come : Vars → Run
  come v = tests_run (buffers_in st) (tests_from w o i (n - i)) v

  pub still-pending : (get_or st (11 * buffer + 9) 0 ≡ 0 → ⊥) → (v : Vars) → come v ≡ stop
  still-pending d v = sym (flat-pending w st o n i q v at h d)

  pub other-type : (get_or st (11 * buffer) 0 ≡ get_or w (q + 1) 0 → ⊥) → (v : Vars) → come v ≡ stop
  other-type z v =
      elim (ℕ_discrete (get_or st (11 * buffer + 9) 0) 0) [
        | yes d ↦ sym (flat-other w st o n i q v at h d z)
        | no d ↦ still-pending d v
      ]

  pub other-symbol : (b : ℕ) → b < 8 → names (get_or w (q + 2) 0) b ≡ true → get_or w (q + 3 + b) 0 < 4096 → (get_or st (11 * buffer + 1 + b) 0 ≡ get_or w (q + 3 + b) 0 → ⊥) → (v : Vars)
      → come v ≡ stop
  other-symbol b l named symbol z v =
      let xs : List ℕ = (get_or (buffers_in st) buffer nothing).slots in
      let differs : get_or (get_or (buffers_in st) buffer nothing).slots b 0 ≡ get_or w (q + 3 + b) 0 → ⊥ = λ e. z (sym (slot_is st buffer b (omega arith) l) ∙ e) in
      let rest : Vars → Run = λ u. tests_run (buffers_in st) (tests_from w o (i + 1) (n - (i + 1))) u in
      elim (ℕ_discrete (get_or st (11 * buffer) 0) (get_or w (q + 1) 0)) [
        | yes t ↦ elim (ℕ_discrete (get_or st (11 * buffer + 9) 0) 0) [
          | yes d ↦ sym (flat_on w st o n i q v at h d t) ∙ given-up w xs q (get_or w (q + 2) 0) b l named symbol differs b 0 (omega arith) v rest
          | no d ↦ still-pending d v
        ]
        | no t ↦ other-type t v
      ]

-- ---- where the tests from one on are given up with any variables, all are

module _ (w : List ℕ) (bs : List Buffer) (o n : ℕ) where
  over_first : (i : ℕ) → i < n → ((v : Vars) → tests_run bs (tests_from w o (i + 1) (n - (i + 1))) v ≡ stop) → (v : Vars) → tests_run bs (tests_from w o i (n - i)) v ≡ stop
  unfolding tests_run
  over_first i h after v =
      rw (first w bs o n i (o + 11 * i) v refl h)
      (elim (test_run (get_or bs (get_or w (o + 11 * i) 0 % 8) nothing) (test_in w (o + 11 * i)) v) as
      (λ (r : Run). then_on r (λ u. tests_run bs (tests_from w o (i + 1) (n - (i + 1))) u) ≡ stop) [ stop ↦ refl | on u ↦ after u ])

  back : (i : ℕ) → i ≤ n → ((v : Vars) → tests_run bs (tests_from w o i (n - i)) v ≡ stop) → (v : Vars) → tests_run bs (tests_from w o 0 (n - 0)) v ≡ stop
  back zero h all = all
  back (suc i) h all =
      let e : i + 1 ≡ suc i = omega arith in
      back i (omega arith) (over_first i (omega arith) (rw e all))

  pub all-over : (i : ℕ) → i ≤ n → ((v : Vars) → tests_run bs (tests_from w o i (n - i)) v ≡ stop) → tests_run bs (tests_in w o n) no_vars ≡ stop
  all-over i h all = let e : n - 0 ≡ n = omega arith in ap (λ (m : ℕ). tests_run bs (tests_from w o 0 m) no_vars) (sym e) ∙ back i h all no_vars

-- ---- so each word that a test wants shuts the rule

module _ (w : List ℕ) (o n i q : ℕ) (at : q ≡ o + 11 * i) (h : i < n) (r : Rule) (e : StandsAt r w o n) where
  shut : (st : List ℕ) (clock : ℕ) → ((v : Vars) → tests_run (buffers_in st) (tests_from w o i (n - i)) v ≡ stop) → entry_of r (state_in st clock) ≡ replicate 9 0
  shut st clock all =
      sym (entry-words w o n r (state_in st clock) e)
      ∙ ap (λ (u : Run). entry_words (then_on u (λ v. if queries_hold (queries_at w o) (state_in st clock) then on v else stop))) (all-over w (buffers_in st) o n i (omega arith) all)

  pub delay-shuts : Shuts r (11 * (get_or w q 0 % 8) + 9) 0
  delay-shuts st clock z = shut st clock (still-pending w st o n i q at h z)

  pub type-shuts : Shuts r (11 * (get_or w q 0 % 8)) (get_or w (q + 1) 0)
  type-shuts st clock z = shut st clock (other-type w st o n i q at h z)

  pub symbol-shuts : (b : ℕ) → b < 8 → names (get_or w (q + 2) 0) b ≡ true → get_or w (q + 3 + b) 0 < 4096 → Shuts r (11 * (get_or w q 0 % 8) + 1 + b) (get_or w (q + 3 + b) 0)
  symbol-shuts b l named symbol st clock z = shut st clock (other-symbol w st o n i q at h b l named symbol z)

-- ---- and the word at which the match was given up is one of them

module _ (w st : List ℕ) (o n i q : ℕ) (at : q ≡ o + 11 * i) (h : i < n) where
  -- whatever its word is, the delay of that word's buffer shuts the rule too
  hidden : (place : ℕ) → place / 11 ≡ get_or w q 0 % 8 → (r : Rule) → StandsAt r w o n → Shuts r (delay_of place) 0
  hidden place is r e = rw is (delay-shuts w o n i q at h r e)

  pub because-pending : (get_or st (11 * (get_or w q 0 % 8) + 9) 0 ≡ 0 → ⊥) → Differing w o n st (11 * (get_or w q 0 % 8) + 9) 0
  because-pending z = record { low = omega arith; differs = z; flag = λ f. omega arith; shuts = λ r e. delay-shuts w o n i q at h r e; hidden = hidden (11 * (get_or w q 0 % 8) + 9) (omega arith) }

  pub because-type : (get_or st (11 * (get_or w q 0 % 8)) 0 ≡ get_or w (q + 1) 0 → ⊥) → Differing w o n st (11 * (get_or w q 0 % 8)) (get_or w (q + 1) 0)
  because-type z = record { low = omega arith; differs = z; flag = λ f. omega arith; shuts = λ r e. type-shuts w o n i q at h r e; hidden = hidden (11 * (get_or w q 0 % 8)) (omega arith) }

  pub because-slot : (b : ℕ) → b < 8 → names (get_or w (q + 2) 0) b ≡ true
      → (get_or w (q + 3 + b) 0 < 4096 → get_or st (11 * (get_or w q 0 % 8) + 1 + b) 0 ≡ get_or w (q + 3 + b) 0 → ⊥)
      → Because (why_of (11 * (get_or w q 0 % 8) + 1 + b) (get_or w (q + 3 + b) 0)) w o n st
  because-slot b l named differs =
      by-lt (get_or w (q + 3 + b) 0) 4096
      (λ s. rw (lt-ltb (get_or w (q + 3 + b) 0) 4096 s)
      (record {
        low = omega arith;
        differs = differs s;
        flag = λ f. omega arith;
        shuts = λ r e. symbol-shuts w o n i q at h r e b l named s;
        hidden = hidden (11 * (get_or w q 0 % 8) + 1 + b) (omega arith);
      }))
      (λ s. rw (le-ltb (get_or w (q + 3 + b) 0) 4096 s) tt)
