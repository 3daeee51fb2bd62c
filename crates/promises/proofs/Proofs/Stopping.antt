-- Why a step is not made, for any table.
use Rattle.std.proofs.Math.Path.{◌≡◌, refl, sym, ap}
use Rattle.std.proofs.Common.{◌∙◌}
use Rattle.std.specs.Prelude.{if◌then◌else◌, ◌↔◌, ℕ, zero, suc, ◌+◌, ◌<◌, length}
use Rattle.std.proofs.Math.Bool.{true, false}
use mathlib.Core.List.{List, []}
use Rattle.std.proofs.Math.Option.{Option, none, some}
use native.Mathlib.Omega.{arith}
use Rattle.meaning.specs.declared.State.{State}
use Rattle.meaning.specs.Base.{same}
use Rattle.meaning.specs.Numbers.{not_fresh, clock_full}
use Rattle.meaning.specs.Model.{Model}
use Rattle.meaning.specs.State.{buffer_of}
use Rattle.meaning.specs.Match.{entry_of}
use Rattle.meaning.specs.Choice.{Candidate, choose, utilities}
use Rattle.meaning.specs.Fire.{fire}
use Rattle.meaning.specs.Wait.{soonest, wait}
use Rattle.meaning.specs.Mark.{mark_of}
use Rattle.meaning.specs.Step.{event_fired, event_waited, step_stopped, largest, unless_past, fire_step, wait_step, step_by, step, step_of}
use Rattle.promises.specs.Published.{LeastDelay}
use Rattle.promises.specs.Sentences.{Why, stale, late-fire, late-wait, quiet}
use Rattle.promises.proofs.Proofs.Steps.{same_true, same_refl, unless-stopped, unless-full, fire-fresh}
use Rattle.promises.proofs.Proofs.Transitions.{soonest-pending, soonest-quiet, least-once}

module _ (m : Model) (s : State) (table : List ℕ) where
  abbrev chosen : Option Candidate
  chosen = choose m.rules (utilities m.rules) table

  abbrev fires : Candidate → State
  fires c = fire m.failure m.facts c.rule c.entry s

  fire-clock : (c : Candidate) → (fires c).clock ≡ s.clock + 50
  unfolding fire
  fire-clock c = refl

  wait-clock : (ms : ℕ) → (wait ms s).clock ≡ s.clock + ms
  unfolding wait
  wait-clock ms = refl

  -- ---- a stopped step says why

  fire-why : (c : Candidate) → chosen ≡ some c → (n : ℕ) → fire_step m.failure m.facts s c ≡ step_stopped n → Why m s table n
  unfolding fire_step
  fire-why c o n e =
      (elim (same c.entry (entry_of c.rule s)) as
      (λ t. same c.entry (entry_of c.rule s) ≡ t
      → (if t then unless_past (event_fired c.number) (fires c) (mark_of c.rule.actions s (fires c)) else step_stopped not_fresh) ≡ step_stopped n → Why m s table n) [
        | true ↦ λ t k.
            let past : (n ≡ clock_full) × (largest < (fires c).clock) = unless-stopped (event_fired c.number) (fires c) (mark_of c.rule.actions s (fires c)) n k in
            rw past.0 (late-fire o (same_true c.entry (entry_of c.rule s) t) (omega (arith, past.1, fire-clock c)))
        | false ↦ λ t k. let q : 7 ≡ n = cc in rw (← q) (stale o (differ t))
      ]) refl e
    where
      differ : same c.entry (entry_of c.rule s) ≡ false → c.entry ≡ entry_of c.rule s → ⊥
      differ t q = let z : true ≡ false = sym (same_refl (entry_of c.rule s)) ∙ ap (λ (x : List ℕ). same x (entry_of c.rule s)) (sym q) ∙ t in let y : ◌≡◌ {A = ℕ} 0 1 = cc in omega arith

  wait-why : chosen ≡ none → (ms : ℕ) → soonest 0 s.buffers ≡ ms → (n : ℕ) → wait_step s ms ≡ step_stopped n → Why m s table n
  wait-why o zero d n e = let q : 9 ≡ n = cc in rw (← q) (quiet o (soonest-quiet s d))
  wait-why o (suc k) d n e =
      let past : (n ≡ clock_full) × (largest < (wait (suc k) s).clock) = unless-stopped (event_waited (suc k)) (wait (suc k) s) (mark_of [] s (wait (suc k) s)) n e in
      rw past.0 (late-wait o (soonest-pending s k d) (omega (arith, past.1, wait-clock (suc k))))

  choice-why : (o : Option Candidate) → chosen ≡ o → (n : ℕ) → step_by m.failure m.facts s o ≡ step_stopped n → Why m s table n
  choice-why none o n e = wait-why o (soonest 0 s.buffers) refl n e
  choice-why (some c) o n e = fire-why c o n e

  pub stopped-why : (n : ℕ) → step_of m s table ≡ step_stopped n → Why m s table n
  unfolding step
  stopped-why n e = choice-why chosen refl n e

  -- ---- and where there is a reason, the step is stopped

  step-fires : (c : Candidate) → chosen ≡ some c → step_of m s table ≡ fire_step m.failure m.facts s c
  unfolding step
  step-fires c o = rw o refl

  step_waits : chosen ≡ none → step_of m s table ≡ wait_step s (soonest 0 s.buffers)
  unfolding step
  step_waits o = rw o refl

  stale-stops : (c : Candidate) → (c.entry ≡ entry_of c.rule s → ⊥) → fire_step m.failure m.facts s c ≡ step_stopped not_fresh
  unfolding fire_step
  stale-stops c d =
      (elim (same c.entry (entry_of c.rule s)) as
      (λ t. same c.entry (entry_of c.rule s) ≡ t → (if t then unless_past (event_fired c.number) (fires c) (mark_of c.rule.actions s (fires c)) else step_stopped not_fresh) ≡ step_stopped not_fresh) [
        | true ↦ λ t. absurd (d (same_true c.entry (entry_of c.rule s) t))
        | false ↦ λ t. refl
      ]) refl

  soonest-is : (ms : ℕ) → LeastDelay s ms → (n : ℕ) → soonest 0 s.buffers ≡ n → n ≡ ms
  soonest-is ms l zero e = absurd (omega (arith, soonest-quiet s e l.buffer l.there, l.is, l.above))
  soonest-is ms l (suc k) e = least-once s (suc k) ms (soonest-pending s k e) l

  late-stops : (ms : ℕ) → 0 < ms → largest < s.clock + ms → wait_step s ms ≡ step_stopped clock_full
  late-stops zero p l = absurd (omega arith)
  late-stops (suc k) p l = unless-full (event_waited (suc k)) (wait (suc k) s) (mark_of [] s (wait (suc k) s)) (omega (arith, wait-clock (suc k)))

  soonest-none : ((b : ℕ) → b < length s.buffers → (buffer_of s b).delay ≡ 0) → (n : ℕ) → soonest 0 s.buffers ≡ n → n ≡ 0
  soonest-none z zero e = refl
  soonest-none z (suc k) e =
      let l : LeastDelay s (suc k) = soonest-pending s k e in
      absurd (omega (arith, z l.buffer l.there, l.is, l.above))

  pub why-stopped : {n : ℕ} → Why m s table n → step_of m s table ≡ step_stopped n
  why-stopped (stale {c} o d) = step-fires c o ∙ stale-stops c d
  why-stopped (late-fire {c} o e l) =
      step-fires c o ∙ fire-fresh m.failure m.facts s c e ∙ unless-full (event_fired c.number) (fires c) (mark_of c.rule.actions s (fires c)) (omega (arith, fire-clock c))
  why-stopped (late-wait {ms} o d l) =
      step_waits o ∙ ap (wait_step s) (soonest-is ms d (soonest 0 s.buffers) refl) ∙ late-stops ms d.above l
  why-stopped (quiet o z) = step_waits o ∙ ap (wait_step s) (soonest-none z (soonest 0 s.buffers) refl)

  pub stops-exactly : (n : ℕ) → (step_of m s table ≡ step_stopped n) ↔ Why m s table n
  stops-exactly n = (stopped-why n, λ w. why-stopped w)
