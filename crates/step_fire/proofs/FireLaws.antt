-- The actions of a rule on a state that has waited: the walk over the buffers acted on, the firing that they make of it, and its mark.
use Prim.Native.Nat.{ℕ, zero, suc, ◌+◌, ◌*◌, ◌/◌, ◌%◌, ◌≤◌, ◌<◌}
use mathlib.Core.Path.{◌≡◌, refl, sym, ap, ◌∙◌}
use mathlib.Core.Bool.{Bool, true, false, ◌&&◌, ◌||◌, not, or-false, or-true}
use mathlib.Core.List.{List, [], ◌∷◌, map}
use mathlib.Core.Option.{Option, none, some}
use native.Mathlib.Decide.{ℕ_discrete}
use native.Mathlib.Nat.{zero-add}
use native.Mathlib.Omega.{arith}
use borrow.Author.Tests.{eq-eqb, ne_eqb, eqb-true, eqb-false}
use lib.Bits.{bit_or}
use lib.Dec.{eqb}
use lib.ListN.{length, get_or-eq_default}
use Rattle.meaning.specs.declared.Buffer.{Buffer}
use Rattle.meaning.specs.declared.State.{State}
use Rattle.meaning.specs.Base.{bit, up_from, weigh}
use Rattle.meaning.specs.Model.{Deed, deed_modify, deed_request, deed_clear, Action, Rule, Fact}
use Rattle.meaning.specs.Fire.{done, later, after, deed_on, change, fire}
use Rattle.meaning.specs.Wait.{wait}
use Rattle.meaning.specs.Mark.{is_some, acted_on, mark_of}
use Rattle.layout.specs.Rows.{rows_in, action_in}
use Rattle.layout.specs.StateWords.{buffer_in, buffers_in, state_in}
use Rattle.layout.proofs.RowLaws.{rows_same}
use Rattle.layout.proofs.StateLaws.{buffer-like}
use Rattle.laws.specs.BaseLaws.{by-lt, no_true, bit-zero, bit-weigh, get_or-up_from}
use Rattle.match_sets.proofs.BitLaws.{bit-or, but-none}
use Rattle.step_wait.specs.Remade.{Remade, arrives}
use Rattle.step_wait.proofs.StepLaws.{changed, marked, mark-is}
use Rattle.step_fire.specs.Acts.{ActedMask, acting}

-- a buffer but the one that was changed
remade-other : {w w' : List ℕ} {k : ℕ} {b : Buffer} → Remade w w' k b → (j : ℕ) → (j ≡ k → ⊥) → buffer_in w' j ≡ buffer_in w j
remade-other {w} {w'} {k} r j n =
    buffer-like w' w j (λ i l. by-lt j k (λ h. r.below (11 * j + i) (omega arith)) (λ h. r.above (11 * j + i) (omega arith)))

change-rows : (f : ℕ → Buffer → Buffer) (g : ℕ → Buffer) (i n : ℕ) → change f i (rows_in g i n) ≡ rows_in (λ k. f k (g k)) i n
unfolding change rows_in
change-rows f g i zero = refl
change-rows f g i (suc n) = ap (λ (bs : List Buffer). f i (g i) ∷ bs) (change-rows f g (i + 1) n)

-- ---- two numbers whose places are the same, and the places of a mark

digit : (x y : ℕ) → x < 2 → y < 2 → eqb x 1 ≡ eqb y 1 → x ≡ y
digit x y h g e =
    elim (ℕ_discrete y 1) [
      | yes q ↦ eqb-true x 1 (e ∙ eq-eqb y 1 q) ∙ sym q
      | no q ↦ let n : x ≡ 1 → ⊥ = eqb-false x 1 (e ∙ ne_eqb y 1 q) in omega arith
    ]

same_bits : (fuel x y : ℕ) → x ≤ fuel → y ≤ fuel → ((j : ℕ) → bit x j ≡ bit y j) → x ≡ y
same_bits zero x y h g e = omega arith
same_bits (suc fuel) x y h g e =
    let low = digit (x % 2) (y % 2) (omega arith) (omega arith) (e 0) in
    let high = same_bits fuel (x / 2) (y / 2) (omega arith) (omega arith) (λ j. e (suc j)) in
    omega arith

mark-bit : (f : ℕ → Bool) (k : ℕ) → k < 8 → bit (weigh (map f (up_from 0 8))) k ≡ f k
mark-bit f k h = bit-weigh (map f (up_from 0 8)) k ∙ get_or-up_from f 0 8 k h ∙ ap f (zero-add k)

mark-past : (f : ℕ → Bool) (k : ℕ) → 8 ≤ k → bit (weigh (map f (up_from 0 8))) k ≡ false
mark-past f k h = bit-weigh (map f (up_from 0 8)) k ∙ get_or-eq_default (map f (up_from 0 8)) false h

module _ (failure : ℕ) (memory : List Fact) (nine : List ℕ) where
  -- ---- the walk over the buffers acted on: those that are left are as they were, the others what their deeds make of them

  pub record Acting (as' : List Action) (w w' : List ℕ) (rest : ℕ) : Type 0 where
    pub size : length w' ≡ length w
    pub left : (j : ℕ) → bit rest j ≡ true → (acted_on as' j ≡ true) × (buffer_in w' j ≡ buffer_in w j)
    pub made : (j : ℕ) → bit rest j ≡ false → buffer_in w' j ≡ acting failure memory nine (buffer_in w j) (deed_on as' j)

  acting-none : (b : Buffer) (d : Option Deed) → is_some d ≡ false → b ≡ acting failure memory nine b d
  acting-none b none e = refl
  acting-none b (some d) e = absurd (no_true e)

  pub acting-start : (as' : List Action) (w : List ℕ) (mask : ℕ) → ActedMask as' mask → Acting as' w w mask
  acting-start as' w mask h =
      record {
        size = refl;
        left = λ j e. (sym (h j) ∙ e, refl);
        made = λ j e. acting-none (buffer_in w j) (deed_on as' j) (sym (h j) ∙ e);
      }

  module _ {as' : List Action} {w w' : List ℕ} {rest : ℕ} (g : Acting as' w w' rest) where
    pub acting-end : rest ≡ 0 → (k : ℕ) → buffer_in w' k ≡ acting failure memory nine (buffer_in w k) (deed_on as' k)
    acting-end e k = g.made k (rw e (bit-zero k))

    -- buffer z is what the action at q makes of it, and is not left any more
    pub acting-turn : {w'' : List ℕ} {rest' z : ℕ} (words : List ℕ) (q : ℕ) → bit rest z ≡ true → ((j : ℕ) → bit rest' j ≡ (bit rest j && not (eqb j z)))
        → deed_on as' z ≡ some (action_in words q).deed → length w'' ≡ length w' → Remade w' w'' z (done failure memory nine (buffer_in w' z) (action_in words q).deed)
        → Acting as' w w'' rest'
    acting-turn {w''} {rest'} {z} words q here dropped deed n r =
        record {
          size = n ∙ g.size;
          left = λ j e.
              elim (ℕ_discrete j z) [
                | yes x ↦ absurd (no_true (sym e ∙ ap (bit rest') x ∙ own))
                | no x ↦ let l = g.left j (sym (other j x) ∙ e) in (l.0, remade-other r j x ∙ l.1)
              ];
          made = λ j e.
              elim (ℕ_discrete j z) [
                | yes x ↦ rw (x, deed) (r.made ∙ ap (λ (b : Buffer). done failure memory nine b (action_in words q).deed) (g.left z here).1)
                | no x ↦ remade-other r j x ∙ g.made j (sym (other j x) ∙ e)
              ];
        }
      where
        own : bit rest' z ≡ false
        own = rw (dropped z, here, eq-eqb z z refl)

        other : (j : ℕ) → (j ≡ z → ⊥) → bit rest' j ≡ bit rest j
        other j x = rw (dropped j, ne_eqb j z x) (but-none (bit rest j))

  -- ---- a deed looks at nothing of a delay, and whoever has no deed is as after a wait

  done-later : (ms : ℕ) (b : Buffer) (d : Deed) → done failure memory nine (later ms b) d ≡ done failure memory nine b d
  unfolding done
  done-later ms b (deed_modify ns) = refl
  done-later ms b (deed_request isa ns) = refl
  done-later ms b deed_clear = refl

  acting-later : (b : Buffer) (d : Option Deed) → acting failure memory nine (later 50 b) d ≡ after failure memory nine b d
  acting-later b none = refl
  acting-later b (some d) = done-later 50 b d

  -- acted on or arrived by the wait is acted on or arrived by the firing
  acting-marks : (b b' b'' : Buffer) (d : Option Deed) → b'' ≡ acting failure memory nine b' d → (arrives b b' || is_some d) ≡ (is_some d || arrives b b'')
  acting-marks b b' b'' none e = rw e (or-false (arrives b b'))
  acting-marks b b' b'' (some d) e = or-true (arrives b b')

  -- ---- the actions done on what a wait of 50 ms made of w

  module _ (as' : List Action) (w w' w'' : List ℕ) (acts : (k : ℕ) → buffer_in w'' k ≡ acting failure memory nine (buffer_in w' k) (deed_on as' k)) where
    pub fired : state_in w' (0 + 50) ≡ wait 50 (state_in w 0) → (clock : ℕ) (r : Rule) → r.actions ≡ as' → state_in w'' (clock + 50) ≡ fire failure memory r nine (state_in w clock)
    unfolding fire wait
    fired e clock r g =
        let waits : buffers_in w' ≡ change (λ i b. later 50 b) 0 (buffers_in w) = ap (λ (s : State). s.buffers) e in
        rw (g, change-rows (λ i b. after failure memory nine b (deed_on as' i)) (buffer_in w) 0 8)
        (ap (λ (bs : List Buffer). record { buffers = bs; clock = clock + 50 })
        (rows_same (buffer_in w'') (λ k. after failure memory nine (buffer_in w k) (deed_on as' k)) 0 8 (λ k a l.
        acts k
        ∙ ap (λ (b : Buffer). acting failure memory nine b (deed_on as' k)) (changed (λ i b. later 50 b) w w' waits k (omega arith))
        ∙ acting-later (buffer_in w k) (deed_on as' k))))

    -- the mark of the wait and the buffers acted on, together
    pub fired-mark : (arrived mask : ℕ) → ((clock clock' : ℕ) → arrived ≡ mark_of [] (state_in w clock) (state_in w' clock')) → ActedMask as' mask
        → ((k : ℕ) → acted_on as' k ≡ true → k < 8) → (clock clock' : ℕ) → bit_or arrived mask ≡ mark_of as' (state_in w clock) (state_in w'' clock')
    unfolding deed_on
    fired-mark arrived mask waits masked low clock clock' =
        let mark = weigh (map (marked as' w w'') (up_from 0 8)) in
        same_bits (bit_or arrived mask + mark) (bit_or arrived mask) mark (omega arith) (omega arith) (λ j. bit-or arrived mask j ∙ by-lt j 8 (inside j) (outside j))
        ∙ sym (mark-is as' w w'' clock clock')
      where
        arrives-so : arrived ≡ weigh (map (marked [] w w') (up_from 0 8))
        arrives-so = waits 0 0 ∙ mark-is [] w w' 0 0

        inside : (j : ℕ) → j < 8 → (bit arrived j || bit mask j) ≡ bit (weigh (map (marked as' w w'') (up_from 0 8))) j
        inside j h =
            rw (arrives-so, mark-bit (marked [] w w') j h, masked j, mark-bit (marked as' w w'') j h)
            (acting-marks (buffer_in w j) (buffer_in w' j) (buffer_in w'' j) (deed_on as' j) (acts j))

        outside : (j : ℕ) → 8 ≤ j → (bit arrived j || bit mask j) ≡ bit (weigh (map (marked as' w w'') (up_from 0 8))) j
        outside j h =
            rw (arrives-so, mark-past (marked [] w w') j h, masked j, mark-past (marked as' w w'') j h)
            ((elim (acted_on as' j) as (λ t. acted_on as' j ≡ t → t ≡ false) [ true ↦ λ e. absurd (omega (arith, low j e)) | false ↦ λ e. refl ]) refl)
