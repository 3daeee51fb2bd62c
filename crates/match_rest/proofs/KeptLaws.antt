-- What a step leaves of the words of the buffers that its mark does not name.
use Prim.Native.Nat.{ℕ, ◌+◌, ◌-◌, ◌*◌, ◌/◌, ◌%◌, ◌<◌}
use mathlib.Core.Path.{◌≡◌, sym, ap, ◌∙◌}
use mathlib.Core.Bool.{false}
use mathlib.Core.List.{List}
use native.Mathlib.Omega.{arith}
use native.Mathlib.Decide.{ℕ_discrete}
use borrow.Author.Tests.{eqb-false, ne_eqb}
use lib.IntN.{ℤ}
use lib.ListN.{get_or}
use Rattle.meaning.specs.declared.Buffer.{Buffer}
use Rattle.meaning.specs.Base.{bit}
use Rattle.meaning.specs.Model.{Model, Fact}
use Rattle.meaning.specs.State.{buffer_of}
use Rattle.meaning.specs.Step.{Event, step_made, step}
use Rattle.laws.specs.MarkLaws.{Waits, Leaves, step-leaves, waits-alike}
use Rattle.layout.specs.Rows.{rows_in}
use Rattle.layout.specs.StateWords.{buffer_in, state_in}
use Rattle.layout.proofs.StateLaws.{buffer-is, slot_of}
use Rattle.match_rest.specs.Rest.{Kept}

module _ (w w' : List ℕ) (clock clock' mark : ℕ) (leaves : Leaves (state_in w clock) (state_in w' clock') mark) where
  waits : (p : ℕ) → p < 88 → bit mark (p / 11) ≡ false → Waits (buffer_in w (p / 11)) (buffer_in w' (p / 11))
  unfolding rows_in
  waits p h e =
      let low : p / 11 < 8 = omega arith in
      rw (sym (buffer-is w (p / 11) low), sym (buffer-is w' (p / 11) low)) (leaves (p / 11) e)

  pub kept_in : Kept w w' mark
  kept_in =
      record {
        words = λ p h e d.
            let x : Waits (buffer_in w (p / 11)) (buffer_in w' (p / 11)) = waits p h e in
            elim (ℕ_discrete (p % 11) 0) [
              | yes z ↦
                  let q : 11 * (p / 11) ≡ p = omega arith in
                  rw q at (ap (λ (b : Buffer). b.isa) x.is)
              | no z ↦
                  let i : ℕ = p % 11 - 1 in
                  let low : p % 11 - 1 < 8 = omega (arith, z) in
                  let q : 11 * (p / 11) + 1 + (p % 11 - 1) ≡ p = omega (arith, z) in
                  rw q at (sym (slot_of w' (p / 11) (p % 11 - 1) low) ∙ ap (λ (b : Buffer). get_or b.slots (p % 11 - 1) 0) x.is ∙ slot_of w (p / 11) (p % 11 - 1) low)
            ];
        delays = λ p h e nine d gone.
            let q : 11 * (p / 11) + 9 ≡ p = omega arith in
            let was : (buffer_in w (p / 11)).delay ≡ 0 → ⊥ = rw q d in
            let is : (buffer_in w' (p / 11)).delay ≡ 0 = rw q gone in
            eqb-false (buffer_in w' (p / 11)).delay 0 ((waits p h e).pending (ne_eqb (buffer_in w (p / 11)).delay 0 was)) is;
        flags = λ p h e ten.
            let q : 11 * (p / 11) + 10 ≡ p = omega arith in
            rw q at (ap (λ (b : Buffer). b.error) (waits p h e).is);
        marks = λ clock clock' b off. waits-alike (buffer_of (state_in w clock) b) (buffer_of (state_in w' clock') b) (leaves b off);
      }

-- WHAT THE REFRESH OF A RUN NEEDS OF A STEP
pub step_kept : (m : Model) (memory : List Fact) (us : List ℤ) (table w w' : List ℕ) (clock clock' mark : ℕ) (e : Event)
    → step_made e (state_in w' clock') mark ≡ step m memory us (state_in w clock) table → Kept w w' mark
step_kept m memory us table w w' clock clock' mark e is = kept_in w w' clock clock' mark (rw (← is) at (step-leaves m memory us (state_in w clock) table))
