-- Which queries change is marked: busy, free and failed; why a flag is set after a step; and a set flag is beside nil.
use Rattle.std.specs.Prelude.{◌≡◌, List, ℕ, ◌+◌, ◌-◌, ◌≤◌, ◌<◌, ℤ, length, drop}
use Rattle.std.proofs.Math.Path.{refl, ap}
use Rattle.std.proofs.Common.{sym, ◌∙◌, ne_eqb, get_or-drop}
use Rattle.std.proofs.Math.Bool.{true}
use Rattle.std.proofs.Math.Option.{Option, none, some}
use native.Mathlib.Omega.{arith}
use Rattle.std.proofs.Math.ListN.{get_or}
use Rattle.meaning.specs.declared.State.{State}
use Rattle.meaning.specs.Base.{every, bit}
use Rattle.meaning.specs.Model.{Model, Rule, free, Deed, deed_modify, deed_request, deed_clear, Named, Fact}
use Rattle.meaning.specs.State.{nothing, buffer_of, is_nil, well_buffer, is_unused, well_formed}
use Rattle.meaning.specs.Match.{entry_of}
use Rattle.meaning.specs.Retrieval.{retrieve, retrieved}
use Rattle.meaning.specs.Fire.{done, after, deed_on}
use Rattle.meaning.specs.Step.{Event, event_fired, event_waited, step_made, step}
use Rattle.laws.specs.BaseLaws.{no_true, and_right, by-lt}
use Rattle.promises.specs.Words.{At}
use Rattle.promises.specs.Published.{Flagged, unfound, unacted, unaltered}
use Rattle.promises.proofs.Proofs.Matching.{finds-answers}
use Rattle.promises.proofs.Proofs.Firing.{fired-matching, fired-after, waited-after}
use Rattle.promises.proofs.Proofs.WellFormed.{buffer-parts, unused-parts, all-get_or, well-buffer}
use Rattle.promises.proofs.Proofs.Retrieving.{nothing-here, here-nothing}
pub use Rattle.promises.proofs.Proofs.AskedAnswer.{answer-marked, flag-marked}
use Rattle.promises.proofs.Proofs.AskedAnswer.{flag_of}

module _ (m : Model) (memory : List Fact) (us : List ℤ) (s : State) (table : List ℕ) (e : Event) (s' : State) (mark : ℕ) (made : step m memory us s table ≡ step_made e s' mark) where
  -- a delay that went from 0 to above 0, and one that went from above 0 to 0
  pub busy-marked : (b : ℕ) → (buffer_of s b).delay ≡ 0 → 0 < (buffer_of s' b).delay → bit mark b ≡ true
  busy-marked b was is =
      (answer-marked m memory us s table e s' mark made) b free (λ q. no_true (sym (finds-answers free (buffer_of s b) was) ∙ q ∙ ne_eqb (buffer_of s' b).delay 0 (λ z. omega arith)))

  pub free-marked : (b : ℕ) → 0 < (buffer_of s b).delay → (buffer_of s' b).delay ≡ 0 → bit mark b ≡ true
  free-marked b was is =
      (answer-marked m memory us s table e s' mark made) b free (λ q. no_true (sym (finds-answers free (buffer_of s' b) is) ∙ sym q ∙ ne_eqb (buffer_of s b).delay 0 (λ z. omega arith)))

-- ---- why a flag is set after a step

module _ (m : Model) (memory : List Fact) (us : List ℤ) (s : State) (table : List ℕ) (s' : State) (mark b : ℕ) (there : b < length s.buffers) where
  abbrev IsMade : Event → Type 0
  IsMade e = step m memory us s table ≡ step_made e s' mark

  abbrev IsWhy : Event → Type 0
  IsWhy e = Flagged m.rules memory s b e

  -- of what a rule makes of the buffer, by its deed on it or none
  module _ (k : ℕ) (r : Rule) (numbered : At r k m.rules) where
    asked-flag : (isa : ℕ) (ns : List Named) → deed_on r.actions b ≡ some (deed_request isa ns) → (o : Option Fact) → retrieve memory isa ns (entry_of r s) ≡ o
        → (retrieved m.failure o).error ≡ true → IsWhy (event_fired k)
    asked-flag isa ns is none q h = unfound numbered is (nothing-here memory isa ns (entry_of r s) q)
    asked-flag isa ns is (some f) q h = absurd (no_true (sym h))

    after-flag : (o : Option Deed) → deed_on r.actions b ≡ o → (after m.failure memory (entry_of r s) (buffer_of s b) o).error ≡ true → IsWhy (event_fired k)
    unfolding done
    after-flag none is h = unacted numbered is h
    after-flag (some (deed_modify ns)) is h = absurd (no_true (sym h))
    after-flag (some (deed_request isa ns)) is h = asked-flag isa ns is (retrieve memory isa ns (entry_of r s)) refl h
    after-flag (some deed_clear) is h = absurd (no_true (sym h))

  pub set-flagged : (e : Event) → IsMade e → (buffer_of s' b).error ≡ true → IsWhy e
  set-flagged (event_fired k) step_is h =
      let f = fired-matching m memory us s table k s' mark step_is in
      let o : Option Deed = deed_on f.rule.actions b in
      after-flag k f.rule f.numbered o refl (sym (ap flag_of (fired-after m memory us s table k s' mark step_is f.rule f.numbered b there o refl)) ∙ h)
  set-flagged (event_waited ms) step_is h = unaltered (sym (ap flag_of (waited-after m memory us s table ms s' mark step_is b there)) ∙ h)

  pub flagged-set : (e : Event) → IsMade e → IsWhy e → (buffer_of s' b).error ≡ true
  unfolding done
  flagged-set (event_fired k) step_is (unfound {r = r} {isa = isa} {ns = ns} numbered is none-fits) =
      ap flag_of (fired-after m memory us s table k s' mark step_is r numbered b there (some (deed_request isa ns)) is)
      ∙ ap (λ (o : Option Fact). (retrieved m.failure o).error) (here-nothing memory isa ns (entry_of r s) none-fits)
  flagged-set (event_fired k) step_is (unacted {r = r} numbered is was) =
      ap flag_of (fired-after m memory us s table k s' mark step_is r numbered b there none is) ∙ was
  flagged-set (event_waited ms) step_is (unaltered was) = ap flag_of (waited-after m memory us s table ms s' mark step_is b there) ∙ was

-- ---- in a well-formed state a set flag is beside nil, within the buffer count

module _ (m : Model) (s : State) (well : well_formed m s ≡ true) (b : ℕ) (there : b < length s.buffers) (set : (buffer_of s b).error ≡ true) where
  pub flag-nil : is_nil (buffer_of s b) ≡ true
  flag-nil = rw set at (buffer-parts m.types (buffer_of s b) (well-buffer m s well b there)).flag_fits

  past-unused : m.buffers ≤ b → is_unused (buffer_of s b) ≡ true
  unfolding well_formed
  past-unused past =
      let unused : every is_unused (drop m.buffers s.buffers) ≡ true = and_right (every (well_buffer m.types) s.buffers) (every is_unused (drop m.buffers s.buffers)) well in
      let at_b : m.buffers + (b - m.buffers) ≡ b = omega arith in
      let behind : get_or (drop m.buffers s.buffers) (b - m.buffers) nothing ≡ buffer_of s b = rw (get_or-drop, at_b) refl in
      rw (← behind) (all-get_or is_unused (drop m.buffers s.buffers) (b - m.buffers) nothing unused refl)

  pub flag-within : b < m.buffers
  flag-within = by-lt b m.buffers (λ h. h) (λ h. absurd (no_true (sym (rw set at (unused-parts (buffer_of s b) (past-unused h)).unflagged))))
