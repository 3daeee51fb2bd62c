-- Delays: the sooner of two, the soonest of a state, and the delay of one buffer lowered.
use Prim.Native.Nat.{ℕ, zero, suc, ◌+◌, ◌-◌, ◌*◌, ◌≤◌, ◌<◌}
use mathlib.Core.Path.{◌≡◌, refl, sym, ap, ap₂, ◌∙◌}
use mathlib.Core.Bool.{true, false}
use mathlib.Core.List.{List}
use native.Mathlib.Omega.{arith}
use borrow.Author.Tests.{lt-ltb, le-ltb, ne_eqb}
use lib.ListN.{length, get_or, set}
use lib.Seq.{get_or-set_same, get_or-set_other}
use Rattle.meaning.specs.declared.Buffer.{Buffer}
use Rattle.meaning.specs.Fire.{later}
use Rattle.meaning.specs.Wait.{sooner, soonest}
use Rattle.layout.specs.Rows.{rows_in}
use Rattle.layout.specs.StateWords.{buffer_in}
use Rattle.layout.proofs.RowLaws.{rows_left, rows_same}
use Rattle.step_wait.specs.Remade.{Remade, arrives}

-- ---- the sooner of two delays

pub sooner-visible : (ms delay : ℕ) → delay ≡ 0 → ms ≡ sooner ms delay
sooner-visible zero delay e = sym e
sooner-visible (suc ms) delay e = rw e

pub sooner-first : (ms delay : ℕ) → (ms ≡ 0 → ⊥) → ms < delay → ms ≡ sooner ms delay
sooner-first zero delay n h = absurd (n refl)
sooner-first (suc ms) zero n h = absurd (omega arith)
sooner-first (suc ms) (suc delay) n h = rw (lt-ltb ms delay (omega arith))

pub sooner-second : (ms delay : ℕ) → (delay ≡ 0 → ⊥) → delay ≤ ms → delay ≡ sooner ms delay
sooner-second zero delay n h = refl
sooner-second (suc ms) zero n h = absurd (n refl)
sooner-second (suc ms) (suc delay) n h = rw (le-ltb ms delay (omega arith))

-- ---- the soonest of a state, in a loop over its buffers

module _ (w : List ℕ) (k ms : ℕ) where
  pub soonest-turn : {r : ℕ} → r ≡ sooner ms (get_or w (11 * k + 9) 0) → k < 8 → soonest r (rows_in (buffer_in w) (k + 1) (8 - (k + 1))) ≡ soonest ms (rows_in (buffer_in w) k (8 - k))
  unfolding soonest
  soonest-turn e h =
      let n : 8 - k + k ≡ 8 = omega arith in
      rw (e, rows_left (buffer_in w) k 8 h (8 - k) n)

  pub soonest-end : 8 ≤ k → ms ≡ soonest ms (rows_in (buffer_in w) k (8 - k))
  unfolding soonest rows_in
  soonest-end h = let e : 8 - k ≡ 0 = omega arith in rw e

pub ruleset delays_left = (soonest-turn, soonest-end)

-- ---- the delay of one buffer

-- nine words that are alike say the same chunk
pub chunk_kept : (w w' : List ℕ) (k : ℕ) → ((j : ℕ) → j < 9 → get_or w' (11 * k + j) 0 ≡ get_or w (11 * k + j) 0)
    → buffer_in w' k ≡ record { isa = (buffer_in w k).isa; slots = (buffer_in w k).slots; delay = (buffer_in w' k).delay; error = (buffer_in w' k).error }
chunk_kept w w' k h =
    let z : 11 * k + 0 ≡ 11 * k = omega arith in
    ap₂ (λ (i : ℕ) (l : List ℕ). record { isa = i; slots = l; delay = (buffer_in w' k).delay; error = (buffer_in w' k).error }) (rw z at (h 0 (omega arith)))
    (rows_same (λ b. get_or w' (11 * k + 1 + b) 0) (λ b. get_or w (11 * k + 1 + b) 0) 0 8 (λ b x y.
    let e : 11 * k + 1 + b ≡ 11 * k + (1 + b) = omega arith in
    rw e (h (1 + b) (omega arith))))

-- another delay, and the rest of the buffer as it was
delay-set : (w : List ℕ) (k d : ℕ) → 11 * k + 11 ≤ length w
    → Remade w (set w (11 * k + 9) d) k (record { isa = (buffer_in w k).isa; slots = (buffer_in w k).slots; delay = d; error = (buffer_in w k).error })
delay-set w k d h =
    record {
      made =
          chunk_kept w (set w (11 * k + 9) d) k (λ j l. other (11 * k + j) (λ e. omega arith))
          ∙ rw (get_or-set_same w (11 * k + 9) d 0 (omega arith), other (11 * k + 10) (λ e. omega arith));
      below = λ j l. other j (λ e. omega arith);
      above = λ j l. other j (λ e. omega arith);
    }
  where
    other : (j : ℕ) → (j ≡ 11 * k + 9 → ⊥) → get_or (set w (11 * k + 9) d) j 0 ≡ get_or w j 0
    other j n = get_or-set_other w (11 * k + 9) j d 0 n

pub delay-lowered : (w : List ℕ) (k ms d : ℕ) → 11 * k + 11 ≤ length w → d ≡ get_or w (11 * k + 9) 0 - ms → Remade w (set w (11 * k + 9) d) k (later ms (buffer_in w k))
delay-lowered w k ms d h e = rw e (delay-set w k (get_or w (11 * k + 9) 0 - ms) h)

-- a delay of 0 stays, and the words with it
pub delay-none : (w : List ℕ) (k ms : ℕ) → get_or w (11 * k + 9) 0 ≡ 0 → Remade w w k (later ms (buffer_in w k))
delay-none w k ms e =
    let z : get_or w (11 * k + 9) 0 ≡ get_or w (11 * k + 9) 0 - ms = omega arith in
    record { made = ap (λ (d : ℕ). record { isa = (buffer_in w k).isa; slots = (buffer_in w k).slots; delay = d; error = (buffer_in w k).error }) z; below = λ j l. refl; above = λ j l. refl }

pub none-arrives : (b : Buffer) (ms : ℕ) → b.delay ≡ 0 → false ≡ arrives b (later ms b)
none-arrives b ms e = rw e

-- a lowered delay that was above 0 and is not any more
pub arrives-if : (b : Buffer) (ms : ℕ) → (b.delay ≡ 0 → ⊥) → b.delay ≤ ms → true ≡ arrives b (later ms b)
arrives-if b ms n h = let e : b.delay - ms ≡ 0 = omega arith in rw (ne_eqb b.delay 0 n, e)

pub stays-if : (b : Buffer) (ms : ℕ) → ms < b.delay → false ≡ arrives b (later ms b)
stays-if b ms h = rw (ne_eqb b.delay 0 (λ e. omega arith), ne_eqb (b.delay - ms) 0 (λ e. omega arith))
