-- Buffers made anew and the mark of two states, in words; and a loop that lowers each delay of a state in place and marks the buffers that arrive.
use Prim.Native.Nat.{ℕ, ◌+◌, ◌*◌, ◌^◌, ◌≤◌, ◌<◌}
use mathlib.Core.Path.{◌≡◌, refl, sym, ap, ap₂, ◌∙◌}
use mathlib.Core.Bool.{Bool, true, false, ◌||◌}
use mathlib.Core.List.{List, [], map}
use native.Mathlib.Nat.{zero-add}
use native.Mathlib.Omega.{arith}
use lib.ListN.{length, get_or}
use Rattle.meaning.specs.declared.Buffer.{Buffer}
use Rattle.meaning.specs.Base.{up_from, weigh}
use Rattle.meaning.specs.Model.{Action}
use Rattle.meaning.specs.State.{nothing}
use Rattle.meaning.specs.Fire.{later, deed_on, change}
use Rattle.meaning.specs.Mark.{acted_on, mark_of}
use Rattle.layout.specs.StateWords.{buffer_in, buffers_in, state_in}
use Rattle.layout.proofs.RowLaws.{rows-length, map-up_from}
use Rattle.layout.proofs.StateLaws.{buffer-is, buffer-like, anew, anew-start, anew-turn, anew-end}
use Rattle.laws.specs.MarkLaws.{get_or-change}
use Rattle.step_wait.specs.Remade.{Remade, arrives}
use Rattle.step_wait.proofs.MarkLaws.{marking, marking-start, marking-on, marking-off, marking-fits, marking-end}

-- one of the buffers that were made anew
pub changed : (f : ℕ → Buffer → Buffer) (w w' : List ℕ) → buffers_in w' ≡ change f 0 (buffers_in w) → (k : ℕ) → k < 8 → buffer_in w' k ≡ f k (buffer_in w k)
changed f w w' e k h =
    let n : k < length (buffers_in w) = omega (arith, rows-length (buffer_in w) 0 8) in
    sym (buffer-is w' k h)
    ∙ ap (λ (bs : List Buffer). get_or bs k nothing) e
    ∙ get_or-change f 0 (buffers_in w) k nothing n
    ∙ ap₂ f (zero-add k) (buffer-is w k h)

-- whether buffer b is marked: it is acted on, or arrives
abbrev pub marked : List Action → List ℕ → List ℕ → ℕ → Bool
marked as' w w' b = acted_on as' b || arrives (buffer_in w b) (buffer_in w' b)

pub mark-is : (as' : List Action) (w w' : List ℕ) (clock clock' : ℕ) → mark_of as' (state_in w clock) (state_in w' clock') ≡ weigh (map (marked as' w w') (up_from 0 8))
unfolding mark_of
mark-is as' w w' clock clock' =
    rw (rows-length (buffer_in w) 0 8)
    (ap weigh (map-up_from (λ b. acted_on as' b || arrives (get_or (buffers_in w) b nothing) (get_or (buffers_in w') b nothing)) (marked as' w w') 0 8 (λ b l.
    rw (buffer-is w b l, buffer-is w' b l))))

-- ---- the loop

-- whether buffer b of the words w arrives within some ms
abbrev pub lands : ℕ → List ℕ → ℕ → Bool
lands ms w b = arrives (buffer_in w b) (later ms (buffer_in w b))

-- the words w after k turns are w', with the mark so far
pub record Going (ms : ℕ) (w w' : List ℕ) (k mark : ℕ) : Type 0 where
  pub buffers : anew (λ i b. later ms b) w' k ≡ anew (λ i b. later ms b) w 0
  pub left : (j : ℕ) → 11 * k ≤ j → get_or w' j 0 ≡ get_or w j 0
  pub whole : marking (lands ms w) k mark ≡ weigh (map (lands ms w) (up_from 0 8))

pub going_start : (ms : ℕ) (w : List ℕ) → Going ms w w 0 0
going_start ms w = record { buffers = refl; left = λ j h. refl; whole = marking-start (lands ms w) }

module _ {ms : ℕ} {w w' : List ℕ} {k mark : ℕ} (g : Going ms w w' k mark) where
  module _ (h : k < 8) where
    -- a turn: whether buffer k lands goes by the words as they are
    module _ {r : Bool} (e : r ≡ lands ms w' k) where
      is-mark : r ≡ lands ms w k
      is-mark = e ∙ ap (λ (b : Buffer). arrives b (later ms b)) (buffer-like w' w k (λ j l. g.left (11 * k + j) (omega arith)))

      pub going-fits : r ≡ true → mark + 2 ^ k < 256
      going-fits t = marking-fits (lands ms w) k mark h (sym is-mark ∙ t) g.whole

      module _ {w'' : List ℕ} (m : Remade w' w'' k (later ms (buffer_in w' k))) where
        further : (mark' : ℕ) → marking (lands ms w) (k + 1) mark' ≡ marking (lands ms w) k mark → Going ms w w'' (k + 1) mark'
        further mark' d =
            record {
              buffers = anew-turn (λ i b. later ms b) w' w'' k h m.below m.above m.made ∙ g.buffers;
              left = λ j l. m.above j (omega arith) ∙ g.left j (omega arith);
              whole = d ∙ g.whole;
            }

        pub going_on : r ≡ true → {weight : ℕ} → weight ≡ 2 ^ k → Going ms w w'' (k + 1) (mark + weight)
        going_on t e = rw e (further (mark + 2 ^ k) (marking-on (lands ms w) k mark h (sym is-mark ∙ t)))

        pub going-off : r ≡ false → Going ms w w'' (k + 1) mark
        going-off t = further mark (marking-off (lands ms w) k mark h (sym is-mark ∙ t))

  module _ (e : k ≡ 8) where
    pub going-made : buffers_in w' ≡ change (λ i b. later ms b) 0 (buffers_in w)
    going-made =
        sym (anew-end (λ i b. later ms b) w') ∙ ap (anew (λ i b. later ms b) w') (sym e) ∙ g.buffers ∙ anew-start (λ i b. later ms b) w

    -- the mark is that of the states that the words stand for
    pub going-marked : (clock clock' : ℕ) → mark ≡ mark_of [] (state_in w clock) (state_in w' clock')
    unfolding deed_on
    going-marked clock clock' =
        marking-end (lands ms w) k mark (omega arith)
        ∙ g.whole
        ∙ ap weigh (map-up_from (lands ms w) (marked [] w w') 0 8 (λ b l. ap (arrives (buffer_in w b)) (sym (changed (λ i b. later ms b) w w' going-made b l))))
        ∙ sym (mark-is [] w w' clock clock')
