-- A step's mark has the buffers acted on and those that went from pending to visible, and no others.
use Rattle.std.proofs.Math.Path.{◌≡◌, refl, ap}
use Rattle.std.proofs.Common.{sym, ◌∙◌, zero-add, arith, eqb-true, eq-eqb, ne_eqb}
use Rattle.std.proofs.Math.Logic.{⊎_elim}
use Rattle.std.specs.Prelude.{if◌then◌else◌, Bool, ◌||◌, not, eqb}
use Rattle.std.proofs.Math.Bool.{true, false}
use mathlib.Core.List.Memᴰ
use mathlib.Core.List.{List, [], ◌∷◌, map, Memᴰ}
use Rattle.std.proofs.Math.Option.{some}
use Prim.Native.Nat.{ℕ, zero, suc, ◌+◌, ◌≤◌, ◌<◌}
use Rattle.std.proofs.lemmas.Bool.{eqb-false}
use Rattle.std.proofs.Math.ListN.{length, length-map, get_or-eq_default}
use Rattle.meaning.specs.declared.State.{State}
use Rattle.meaning.specs.Base.{up_from, bit}
use Rattle.meaning.specs.Model.{Action}
use Rattle.meaning.specs.State.{buffer_of, visible}
use Rattle.meaning.specs.Fire.{deed_on}
use Rattle.meaning.specs.Mark.{is_some, acted_on, arrived, mark_of}
use Rattle.laws.specs.BaseLaws.{no_true, and_left, and_right, get_or-up_from, bit-weigh}
use Rattle.promises.proofs.Proofs.Matching.{above_zero}

-- ---- a deed on a buffer is an action of the list

pub record On (as' : List Action) (b : ℕ) : Type 0 where
  pub action : Action
  pub member : Memᴰ action as'
  pub buffer_is : action.buffer ≡ b

pub acted-action : (as' : List Action) (b : ℕ) → acted_on as' b ≡ true → On as' b
unfolding deed_on
acted-action [] b e = absurd (no_true (sym e))
acted-action (x ∷ xs) b e =
    (elim (eqb x.buffer b) as (λ t. eqb x.buffer b ≡ t → is_some (if t then some x.deed else deed_on xs b) ≡ true → On (x ∷ xs) b) [
      | true ↦ λ t k. record { action = x; member = Memᴰ.head refl; buffer_is = eqb-true x.buffer b t }
      | false ↦ λ t k. let o : On xs b = acted-action xs b k in record { action = o.action; member = Memᴰ.tail o.member; buffer_is = o.buffer_is }
    ]) refl e

pub action-acted : (as' : List Action) (a : Action) → Memᴰ a as' → acted_on as' a.buffer ≡ true
unfolding deed_on
action-acted [] a h = absurd (Memᴰ.not-nil h)
action-acted (x ∷ xs) a h =
    (elim (eqb x.buffer a.buffer) as (λ t. eqb x.buffer a.buffer ≡ t → is_some (if t then some x.deed else deed_on xs a.buffer) ≡ true) [
      | true ↦ λ t. refl
      | false ↦ λ t.
          ⊎_elim (λ (q : a ≡ x). absurd (eqb-false x.buffer a.buffer t (ap (λ (y : Action). y.buffer) (sym q)))) (λ (k : Memᴰ a xs). action-acted xs a k) (Memᴰ.cases_cons h)
    ]) refl

-- ---- the places of a mark: one is set
-- where its buffer was acted on, or went from pending to visible

module _ (as' : List Action) (s s' : State) where
  abbrev pub touched : ℕ → Bool
  touched b = acted_on as' b || arrived s s' b

  pub mark-bit : (b : ℕ) → b < length s.buffers → bit (mark_of as' s s') b ≡ touched b
  unfolding mark_of
  mark-bit b h = bit-weigh (map touched (up_from 0 (length s.buffers))) b ∙ get_or-up_from touched 0 (length s.buffers) b h ∙ ap touched (zero-add b)

  pub mark-past : (b : ℕ) → length s.buffers ≤ b → bit (mark_of as' s s') b ≡ false
  unfolding mark_of
  mark-past b h =
      bit-weigh (map touched (up_from 0 (length s.buffers))) b
      ∙ get_or-eq_default (map touched (up_from 0 (length s.buffers))) false (omega (arith, length-map (up_from 0 (length s.buffers)) touched, length_up 0 (length s.buffers)))
    where
      length_up : (i n : ℕ) → length (up_from i n) ≡ n
      length_up i zero = refl
      length_up i (suc n) = ap suc (length_up (i + 1) n)

  pub arrived-came : (b : ℕ) → arrived s s' b ≡ true → (0 < (buffer_of s b).delay) × ((buffer_of s' b).delay ≡ 0)
  arrived-came b e =
      let was : not (visible (buffer_of s b)) ≡ true = and_left (not (visible (buffer_of s b))) (visible (buffer_of s' b)) e in
      let is : visible (buffer_of s' b) ≡ true = and_right (not (visible (buffer_of s b))) (visible (buffer_of s' b)) e in
      (above_zero (buffer_of s b).delay was, eqb-true (buffer_of s' b).delay 0 is)

  pub came-arrived : (b : ℕ) → 0 < (buffer_of s b).delay → (buffer_of s' b).delay ≡ 0 → arrived s s' b ≡ true
  came-arrived b p q = rw (ne_eqb (buffer_of s b).delay 0 (λ e. omega arith), eq-eqb (buffer_of s' b).delay 0 q) refl
