-- The mistake that this machine was made for: a rule must not fire on a chunk that is gone.
use Rattle.std.specs.Prelude.{◌≡◌, Bool, false, ℕ, ◌<◌, ℤ, length}
use mathlib.Core.List.{List, Memᴰ}
use Rattle.std.proofs.Math.Option.{none, some}
use Rattle.meaning.specs.declared.State.{State}
use Rattle.meaning.specs.Model.{Model, Rule, Test, deed_clear, Fact}
use Rattle.meaning.specs.State.{buffer_of}
use Rattle.meaning.specs.Fire.{deed_on}
use Rattle.meaning.specs.Step.{Event, event_fired, step_made, step}
use Rattle.promises.specs.Words.{At, Matching, nil_with}
use Rattle.promises.proofs.Proofs.Firing.{fired-matching, fired-cleared, nil-unseen, nil-stays}

-- Whatever the table, the facts in memory and the utilities say: a rule that fires matches the state that it fires in,
-- so each of its tests finds its chunk there, visible, now, and each of its queries holds.
pub fired-matches : (m : Model) (memory : List Fact) (us : List ℤ) (s : State) (table : List ℕ) (k : ℕ) (s' : State) (mark : ℕ)
    → step m memory us s table ≡ step_made (event_fired k) s' mark → Matching m s k
fired-matches m memory us s table k s' mark made = fired-matching m memory us s table k s' mark made

-- A buffer that the fired rule clears holds nil after the step, and its error flag is clear.
pub cleared-is-nil : (m : Model) (memory : List Fact) (us : List ℤ) (s : State) (table : List ℕ) (k : ℕ) (s' : State) (mark : ℕ)
    → step m memory us s table ≡ step_made (event_fired k) s' mark
    → (r : Rule) → At r k m.rules → (b : ℕ) → b < length s.buffers → deed_on r.actions b ≡ some deed_clear
    → buffer_of s' b ≡ nil_with 0 false
cleared-is-nil m memory us s table k s' mark made r at b h d = fired-cleared m memory us s table k s' mark made r at b h d

-- A buffer that holds nil, its flag clear or set, holds it so after the next step too, unless that step fired a rule that acts on it.
pub nil-remains : (m : Model) (memory : List Fact) (us : List ℤ) (s : State) (table : List ℕ) (s' : State) (mark b : ℕ)
    → b < length s.buffers → (flag : Bool) → buffer_of s b ≡ nil_with 0 flag
    → (e : Event) → step m memory us s table ≡ step_made e s' mark → ((k : ℕ) (r : Rule) → e ≡ event_fired k → At r k m.rules → deed_on r.actions b ≡ none)
    → buffer_of s' b ≡ nil_with 0 flag
nil-remains m memory us s table s' mark b h flag n e made spared = nil-stays m memory us s table s' mark b h flag n e made spared

-- While a buffer holds nil, so after a clear until a rule acts on it again, no rule fires that tests it for a chunk of a declared type:
-- each test on it, of a rule that fires, is the one for an empty buffer. What was there before the clear is not seen any more.
pub cleared-unseen : (m : Model) (memory : List Fact) (us : List ℤ) (s : State) (table : List ℕ) (k : ℕ) (s' : State) (mark : ℕ)
    → step m memory us s table ≡ step_made (event_fired k) s' mark
    → (b : ℕ) (flag : Bool) → buffer_of s b ≡ nil_with 0 flag
    → (r : Rule) → At r k m.rules → (t : Test) → Memᴰ t r.tests → t.buffer ≡ b → t.isa ≡ 0
cleared-unseen m memory us s table k s' mark made b flag e r at t mem z = nil-unseen m memory us s table k s' mark made b flag e r at t mem z
