-- One turn of a run that notes its steps: a step more, and what is left gives what the whole gives. It holds of every run that goes step by step,
-- whatever goes from step to step.
use Prim.Native.Nat.{ℕ, suc, ◌+◌, ◌-◌, ◌≤◌, ◌<◌}
use mathlib.Core.Path.{◌≡◌, refl, sym, ap, ◌∙◌}
use mathlib.Core.List.{List}
use native.Mathlib.Nat.{add-zero, zero-add}
use native.Mathlib.Omega.{arith}
use lib.ListN.{length}
use Rattle.meaning.specs.Run.{Timed, Run, ends, before}
use Rattle.step_note.specs.Events.{event_words, noted, inscribed, Tells}

-- `answered` is what a call gives of a number, of what is left, and of a count; `go` a run of so many steps at most
module _ {Left Answer : Type 0} (answered : ℕ → Left → ℕ → Answer) where
  -- what the call gives of a run
  abbrev pub given : Run Left → Answer
  given r = answered r.number r.left (length r.events)

  -- what a run answers and notes, where so many steps were made before it
  abbrev from : ℕ → List ℕ → Run Left → Answer × List ℕ
  from made lent r = (answered r.number r.left (made + length r.events), inscribed lent made r.events)

  from-before : (made : ℕ) (lent : List ℕ) (e : Timed) (r : Run Left)
      → from (made + 1) (noted lent made (event_words e.clock e.event)) r ≡ from made lent (before e r)
  unfolding inscribed
  from-before made lent e r = let k : made + 1 + length r.events ≡ made + suc (length r.events) = omega arith in rw k

  -- no step is left to make: all is answered and noted
  from-ends : (whole : Run Left) (lent₀ : List ℕ) (made : ℕ) (lent : List ℕ) (number : ℕ) (g : Left)
      → from made lent (ends number g) ≡ from 0 lent₀ whole → Tells given (answered number g made) whole lent₀ lent
  unfolding inscribed
  from-ends whole lent₀ made lent number g e =
      record {
        is_run = ap (answered number g) (sym (add-zero made)) ∙ ap (λ (p : Answer × List ℕ). p.0) e ∙ ap (answered whole.number whole.left) (zero-add (length whole.events));
        events = ap (λ (p : Answer × List ℕ). p.1) e;
      }

  -- a run that ends before its first step
  pub nothing-done : (number : ℕ) (g : Left) (lent : List ℕ) → Tells given (answered number g 0) (ends number g) lent lent
  unfolding inscribed
  nothing-done number g lent = record { is_run = refl; events = refl }

  module _ (go : ℕ → Left → Run Left) (n : ℕ) (g₀ : Left) (lent₀ : List ℕ) where
    -- after `made` of n steps: what is left to run from here gives what the whole run gives
    abbrev pub SoFar : ℕ → Left → List ℕ → Type 0
    SoFar made g lent = from made lent (go (n - made) g) ≡ from 0 lent₀ (go n g₀)

    pub going_start : SoFar 0 g₀ lent₀
    going_start = let e : n - 0 ≡ n = omega arith in rw e

    module _ (made : ℕ) (g : Left) (lent : List ℕ) (so_far : SoFar made g lent) where
      -- all steps are made
      pub going_end : n ≤ made → (number : ℕ) → go 0 g ≡ ends number g → Tells given (answered number g made) (go n g₀) lent₀ lent
      going_end h number e =
          let z : n - made ≡ 0 = omega arith in
          from-ends (go n g₀) lent₀ made lent number g (ap (from made lent) (sym e) ∙ rw z at so_far)

      module _ (h : made < n) where
        -- one step more, by what it came to
        one : (r : Run Left) → go (suc (n - (made + 1))) g ≡ r → from made lent r ≡ from 0 lent₀ (go n g₀)
        one r e = let z : n - made ≡ suc (n - (made + 1)) = omega arith in ap (from made lent) (sym e) ∙ rw z at so_far

        -- no step is made, for this reason
        pub going-stop : (number : ℕ) → go (suc (n - (made + 1))) g ≡ ends number g → Tells given (answered number g made) (go n g₀) lent₀ lent
        going-stop number e = from-ends (go n g₀) lent₀ made lent number g (one (ends number g) e)

        -- a step is made, and noted
        pub going-turn : (e : Timed) (g' : Left) (lent' : List ℕ) → go (suc (n - (made + 1))) g ≡ before e (go (n - (made + 1)) g')
            → lent' ≡ noted lent made (event_words e.clock e.event) → SoFar (made + 1) g' lent'
        going-turn e g' lent' is noting =
            let rest = go (n - (made + 1)) g' in
            ap (λ (l : List ℕ). from (made + 1) l rest) noting ∙ from-before made lent e rest ∙ one (before e rest) is
