-- The same laws with the state and the variables in words.
use Rattle.std.specs.Prelude.{if◌then◌else◌}
use Prim.Native.Nat.{ℕ, ◌+◌, ◌*◌, ◌-◌, ◌%◌, ◌≤◌, ◌<◌}
use mathlib.Core.Path.{◌≡◌, refl, sym, ap, ◌∙◌}
use mathlib.Core.Bool.{Bool, true, false, not}
use mathlib.Core.List.{List}
use native.Mathlib.Omega.{arith}
use lib.ListN.{get_or, drop, set}
use lib.Seq.{get_or-drop, drop-set-add}
use lib.Dec.{eqb, ltb}
use borrow.Author.Tests.{lt-ltb, le-ltb, eq-eqb, ne_eqb}
use Rattle.meaning.specs.declared.Buffer.{Buffer}
use Rattle.meaning.specs.State.{nothing}
use Rattle.meaning.specs.Image.{names}
use Rattle.layout.specs.Rows.{word_term}
use Rattle.layout.specs.StateWords.{buffers_in}
use Rattle.layout.proofs.StateLaws.{buffer-is, slot_is}
use Rattle.match_rule.specs.Run.{Vars, Run, on, stop, then_on, term_run, terms_run, tests_run}
use Rattle.match_rule.specs.Words.{vars_in}
use Rattle.match_rule.specs.declared.Tried.TheVariants.{Differs, Varies}
use Rattle.match_rule.specs.Shut.{is_hit, why_of}
use Rattle.match_rule.proofs.TestLaws.{left, tests_from, slot-skip, slot-on, slot-over, test-pending, test-other, test_on}

-- ---- a term

module _ (bound nine : List ℕ) (x t : ℕ) where
  pub term-symbol : t < 4096 → (r : Bool) → r ≡ eqb x t → (if r then on (vars_in bound nine) else stop) ≡ term_run x (word_term t) (vars_in bound nine)
  unfolding term_run
  term-symbol h r e = rw (lt-ltb t 4096 h, e)

  module _ (h : 4096 ≤ t) where
    pub term-new : get_or bound (t % 8) 0 ≡ 0 → (r : Bool) → r ≡ not (eqb x 0)
        → (if r then on (vars_in (set bound (t % 8) 1) (set nine (1 + t % 8) x)) else stop) ≡ term_run x (word_term t) (vars_in bound nine)
    unfolding term_run
    term-new e r f =
        let new : Vars = record { bound = set bound (t % 8) 1; values = set (drop 1 nine) (t % 8) x } in
        rw (le-ltb t 4096 h, e, f, drop-set-add 1 nine (t % 8) x)
        (elim (eqb x 0) as (λ b. (if not b then on new else stop) ≡ (if b then stop else on new)) [ true ↦ refl | false ↦ refl ])

    pub term-seen : (get_or bound (t % 8) 0 ≡ 0 → ⊥) → (r : Bool) → r ≡ eqb (get_or nine (1 + t % 8) 0) x
        → (if r then on (vars_in bound nine) else stop) ≡ term_run x (word_term t) (vars_in bound nine)
    unfolding term_run
    term-seen z r e = rw (le-ltb t 4096 h, ne_eqb (get_or bound (t % 8) 0) 0 z, get_or-drop 1 nine (t % 8) 0, e)

-- a symbol that was missed is another than the value
pub term-missed : (x t : ℕ) (v : Vars) (r : Bool) (u : Vars) → (if r then on u else stop) ≡ term_run x (word_term t) v → r ≡ false → t < 4096 → x ≡ t → ⊥
unfolding term_run
term-missed x t v r u e f h q =
    let gone : stop ≡ on v = sym (ap (λ (b : Bool). if b then on u else stop) f) ∙ e ∙ (rw (lt-ltb t 4096 h, eq-eqb x t q)) in
    let z : ◌≡◌ {A = ℕ} 0 1 = cc in
    omega arith

-- whatever the reason is, the match was given up
pub why-stops : (place term : ℕ) (v : Vars) → (if is_hit (why_of place term) then on v else stop) ≡ stop
why-stops place term v = elim (ltb term 4096) as (λ b. (if is_hit (if b then Differs place term else Varies) then on v else stop) ≡ stop) [ true ↦ refl | false ↦ refl ]

-- ---- the laws of rows, with the state and the variables in words

module _ (w st : List ℕ) (o n i q : ℕ) (v : Vars) (at : q ≡ o + 11 * i) (h : i < n) where
  abbrev kb : ℕ
  kb = get_or w q 0 % 8

  small : get_or w q 0 % 8 < 8
  small = omega arith

  pub flat-pending : (get_or st (11 * kb + 9) 0 ≡ 0 → ⊥) → stop ≡ tests_run (buffers_in st) (tests_from w o i (n - i)) v
  flat-pending z = test-pending w (buffers_in st) o n i q v at h (λ e. z (sym (ap (λ (b : Buffer). b.delay) (buffer-is st kb small)) ∙ e))

  module _ (d : get_or st (11 * kb + 9) 0 ≡ 0) where
    d' : (get_or (buffers_in st) kb nothing).delay ≡ 0
    d' = ap (λ (b : Buffer). b.delay) (buffer-is st kb small) ∙ d

    pub flat-other : (get_or st (11 * kb) 0 ≡ get_or w (q + 1) 0 → ⊥) → stop ≡ tests_run (buffers_in st) (tests_from w o i (n - i)) v
    flat-other z = test-other w (buffers_in st) o n i q v at h d' (λ e. z (sym (ap (λ (b : Buffer). b.isa) (buffer-is st kb small)) ∙ e))

    pub flat_on : get_or st (11 * kb) 0 ≡ get_or w (q + 1) 0
        → then_on (terms_run (get_or (buffers_in st) kb nothing).slots (left w q (get_or w (q + 2) 0) 0) v) (λ u. tests_run (buffers_in st) (tests_from w o (i + 1) (n - (i + 1))) u) ≡ tests_run
        (buffers_in st) (tests_from w o i (n - i)) v
    flat_on z = test_on w (buffers_in st) o n i q v at h d' (ap (λ (b : Buffer). b.isa) (buffer-is st kb small) ∙ z)

module _ (w st : List ℕ) (q m b : ℕ) (v : Vars) (k : Vars → Run) (h : b < 8) where
  abbrev kq : ℕ
  kq = get_or w q 0 % 8

  abbrev xs : List ℕ
  xs = (get_or (buffers_in st) kq nothing).slots

  less : get_or w q 0 % 8 < 8
  less = omega arith

  pub flat-skip : (v' : Vars) → v' ≡ v → names m b ≡ false → then_on (terms_run xs (left w q m (b + 1)) v') k ≡ then_on (terms_run xs (left w q m b) v) k
  flat-skip v' e z = slot-skip w xs q m b v k h v' e z

  module _ (z : names m b ≡ true) (r : Bool) (u : Vars)
      (e : (if r then on u else stop) ≡ term_run (get_or st (11 * kq + 1 + b) 0) (word_term (get_or w (q + 3 + b) 0)) v) where
    e' : (if r then on u else stop) ≡ term_run (get_or xs b 0) (word_term (get_or w (q + 3 + b) 0)) v
    e' = e ∙ ap (λ (x : ℕ). term_run x (word_term (get_or w (q + 3 + b) 0)) v) (sym (slot_is st kq b less h))

    pub flat-slot : (v' : Vars) → v' ≡ u → r ≡ true → then_on (terms_run xs (left w q m (b + 1)) v') k ≡ then_on (terms_run xs (left w q m b) v) k
    flat-slot v' g o = slot-on w xs q m b v k h z r u e' v' g o

    pub flat-over : r ≡ false → stop ≡ then_on (terms_run xs (left w q m b) v) k
    flat-over o = slot-over w xs q m b v k h z r u e' o
