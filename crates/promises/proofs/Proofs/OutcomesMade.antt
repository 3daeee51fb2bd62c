-- What a step and a run with the fresh table come to.
use Rattle.std.specs.Prelude.{◌≡◌, ◌⊎◌, false, List, ℕ, suc, ◌≤◌, ◌<◌}
use Rattle.std.proofs.Math.Path.{refl}
use Rattle.std.proofs.Common.{sym, ap, subst, ◌∙◌, inl, inr, ⊎_elim, arith}
use Rattle.std.proofs.Math.ListN.{length}
use Rattle.meaning.specs.declared.State.{State}
use Rattle.meaning.specs.Model.{Model}
use Rattle.meaning.specs.State.{buffer_of}
use Rattle.meaning.specs.Match.{fresh_table}
use Rattle.meaning.specs.Step.{Event, Step, step_stopped, step_made, largest, unless_past, step_of}
use Rattle.meaning.specs.Run.{Going, going, Run, before, run_from}
use Rattle.meaning.specs.Calls.{ran_by}
use Rattle.meaning.specs.Fresh.{Moving}
use Rattle.meaning.specs.Learning.{knowing, overfull, step_with}
use Rattle.meaning.specs.Refresh.{refresh}
use Rattle.promises.specs.Published.{NoneSelected, Transition, Final, no_step, one-step, Passes, Ended, done, full, over, crowded, RanOn}
use Rattle.promises.proofs.Proofs.Decoded.{RulesGood}
use Rattle.promises.proofs.Proofs.Runs.{known-step-fresh}
use Rattle.promises.proofs.Proofs.Steps.{no-made, InTime, unless-made, unless-stopped, unless-full, unless-on}
use Rattle.promises.proofs.Proofs.Knowing.{known-fresh, with-made}
use Rattle.promises.proofs.Proofs.Transitions.{transition-once, Outcome, goes, stays, outcome, stays-final}
use Rattle.promises.proofs.Proofs.Storing.{onward, stores-after, has_room}

pub same_number : (a b : ℕ) → step_stopped a ≡ step_stopped b → a ≡ b
same_number a b e = cc

module _ (m : Model) (d : RulesGood m) (s : State) where
  abbrev pub fresh_step : Step
  fresh_step = step_of m s (fresh_table m.rules s)

  -- ---- a made step is a transition, and a transition is made

  pub made_by : Outcome m d s → (e : Event) (s' : State) (mark : ℕ) → fresh_step ≡ step_made e s' mark → Transition m s e s' × (s'.clock ≤ largest)
  made_by (goes f t mk tr q) e s' mark h =
      let i : InTime f e t s' mk mark = unless-made f e t s' mk mark (sym q ∙ h) in
      (subst (λ (x : State). Transition m s e x) i.state_is (subst (λ (x : Event). Transition m s x t) i.event_is tr), i.in_time)
  made_by (stays n z q) e s' mark h = no-made 9 e s' mark (sym q ∙ h)

  pub made-transition : (e : Event) (s' : State) (mark : ℕ) → fresh_step ≡ step_made e s' mark → Transition m s e s' × (s'.clock ≤ largest)
  made-transition e s' mark h = made_by (outcome m d s) e s' mark h

  pub step_by : Outcome m d s → (e : Event) (s' : State) → Transition m s e s' → (mark : ℕ) × (fresh_step ≡ unless_past e s' mark)
  step_by (goes f t mk tr q) e s' h =
      let o : (f ≡ e) × (t ≡ s') = transition-once m d s tr h in
      (mk, q ∙ ap (λ (x : Event). unless_past x t mk) o.0 ∙ ap (λ (x : State). unless_past e x mk) o.1)
  step_by (stays n z q) e s' h = absurd (stays-final m d s n z e s' h)

  pub transition-step : (e : Event) (s' : State) → Transition m s e s' → (mark : ℕ) × (fresh_step ≡ unless_past e s' mark)
  transition-step e s' h = step_by (outcome m d s) e s' h

  pub transition-made : (e : Event) (s' : State) → Transition m s e s' → s'.clock ≤ largest → (mark : ℕ) × (fresh_step ≡ step_made e s' mark)
  transition-made e s' t c = let k = transition-step e s' t in (k.0, k.1 ∙ unless-on e s' k.0 c)

  -- ---- why no step is made

  pub halt-final : fresh_step ≡ step_stopped 9 → Final m s
  halt-final h e s' t = let k = transition-step e s' t in omega (arith, (unless-stopped e s' k.0 9 (sym k.1 ∙ h)).0)

  pub final-by : Outcome m d s → Final m s → fresh_step ≡ step_stopped 9
  final-by (goes f t mk tr q) h = absurd (h f t tr)
  final-by (stays n z q) h = q

  pub final-halt : Final m s → fresh_step ≡ step_stopped 9
  final-halt h = final-by (outcome m d s) h

  pub quiet_by : Outcome m d s → Final m s → NoneSelected m s × ((b : ℕ) → b < length s.buffers → (buffer_of s b).delay ≡ 0)
  quiet_by (goes f t mk tr q) h = absurd (h f t tr)
  quiet_by (stays n z q) h = (n, z)

  pub final-quiet : Final m s → NoneSelected m s × ((b : ℕ) → b < length s.buffers → (buffer_of s b).delay ≡ 0)
  final-quiet h = quiet_by (outcome m d s) h

  pub full_by : Outcome m d s → fresh_step ≡ step_stopped 8 → Passes m s
  full_by (goes f t mk tr q) h = record { event = f; state = t; transition = tr; past = (unless-stopped f t mk 8 (sym q ∙ h)).1 }
  full_by (stays n z q) h = absurd (omega (arith, same_number 9 8 (sym q ∙ h)))

  pub full-passes : fresh_step ≡ step_stopped 8 → Passes m s
  full-passes h = full_by (outcome m d s) h

  pub passes-full : Passes m s → fresh_step ≡ step_stopped 8
  passes-full p = let k = transition-step p.event p.state p.transition in k.1 ∙ unless-full p.event p.state k.0 p.past

  pub stopped_by : Outcome m d s → (n : ℕ) → fresh_step ≡ step_stopped n → (n ≡ 8) ⊎ (n ≡ 9)
  stopped_by (goes f t mk tr q) n h = inl (unless-stopped f t mk n (sym q ∙ h)).0
  stopped_by (stays k z q) n h = inr (same_number n 9 (sym h ∙ q))

  pub stopped-eight-nine : (n : ℕ) → fresh_step ≡ step_stopped n → (n ≡ 8) ⊎ (n ≡ 9)
  stopped-eight-nine n h = stopped_by (outcome m d s) n h

  pub not-seven : fresh_step ≡ step_stopped 7 → ⊥
  not-seven h = ⊎_elim (λ (e : 7 ≡ 8). omega arith) (λ (e : 7 ≡ 9). omega arith) (stopped-eight-nine 7 h)

-- ---- a run

abbrev pub freshly : Model → Moving → Going
freshly m g = going g.state (fresh_table m.rules g.state) g.store

-- a step with the fresh table of the image's rules, and what the store knows
abbrev pub known_step : Model → Moving → Step
known_step m g = step_of (knowing m g.store) g.state (fresh_table m.rules g.state)

pub known_step_lem : (m : Model) (g : Moving) → known_step m g ≡ step_of (knowing m g.store) g.state (fresh_table (knowing m g.store).rules g.state)
known_step_lem m g = ap (step_of (knowing m g.store) g.state) (known-fresh m g.store g.state)

-- what is promised of a run: of its answer,
-- and of its events in their order
abbrev pub Goes : Model → Moving → ℕ → Run Going → Type 0
Goes m g asked r = RanOn m g asked r.events (ran_by 0 r) r.left.store

pub one_more : (m : Model) (g : Moving) (s' : State) (e : Event) (n : ℕ) (r : Run Going) → Transition (knowing m g.store) g.state e s' → s'.clock ≤ largest
    → overfull (onward m g e s').store ≡ false → Goes m (onward m g e s') n r → Goes m g (suc n) (before (record { clock = s'.clock; event = e }) r)
one_more m g s' e n r t c o h =
    let path = one-step t c (stores-after m g.state e g.store) (has_room (onward m g e s').store o) h.path in
    record { path = path; counted = refl; ended = longer h.ended; fresh = h.fresh }
  where
    longer : {k number : ℕ} {x : Moving} → Ended m n k x number → Ended m (suc n) (suc k) x number
    longer (done q) = done (ap suc q)
    longer (full l p) = full (omega arith) p
    longer (over l p) = over (omega arith) p
    longer (crowded l p) = crowded (omega arith) p

pub stopped-run : (m : Model) (n : ℕ) (g : Moving) (number : ℕ) → step_with m g.store g.state (fresh_table m.rules g.state) ≡ step_stopped number → Ended m (suc n) 0 g number
    → Goes m g (suc n) (run_from m (suc n) (freshly m g))
unfolding run_from
stopped-run m n g number q h = rw q (record { path = no_step; counted = refl; ended = h; fresh = refl })

pub made-run : (m : Model) (n : ℕ) (g : Moving) (e : Event) (s' : State) (mark : ℕ) → step_with m g.store g.state (fresh_table m.rules g.state) ≡ step_made e s' mark
    → run_from m (suc n) (freshly m g) ≡ before (record { clock = s'.clock; event = e }) (run_from m n (freshly m (onward m g e s')))
unfolding run_from
made-run m n g e s' mark q =
    let f : refresh m.rules s' mark (fresh_table m.rules g.state) ≡ fresh_table m.rules s' =
    known-step-fresh m g.store g.state (fresh_table m.rules g.state) refl e s' mark (with-made m g.store g.state (fresh_table m.rules g.state) e s' mark q).0 in
    rw q (ap (λ (t : List ℕ). before (record { clock = s'.clock; event = e }) (run_from m n (going s' t (onward m g e s').store))) f)
