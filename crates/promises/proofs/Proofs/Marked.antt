-- The mark of a step has the buffers that it touched, and no others.
use Rattle.std.proofs.Math.Path.{◌≡◌, refl, ap}
use Rattle.std.proofs.Common.{sym, subst, ◌∙◌, arith}
use Rattle.std.proofs.Math.Logic.{⊎_elim}
use Rattle.std.specs.Prelude.{◌||◌, ℤ}
use Rattle.std.proofs.Math.Bool.{true}
use mathlib.Core.List.{List, []}
use Prim.Native.Nat.{ℕ, ◌<◌}
use Rattle.std.proofs.Math.ListN.{length}
use Rattle.meaning.specs.declared.State.{State}
use Rattle.meaning.specs.Base.{bit}
use Rattle.meaning.specs.Model.{Model, Rule, Action, Fact}
use Rattle.meaning.specs.Fire.{deed_on}
use Rattle.meaning.specs.Mark.{acted_on, arrived, mark_of}
use Rattle.meaning.specs.Step.{Event, event_fired, event_waited, step_made, step}
use Rattle.laws.specs.BaseLaws.{no_true, by-lt}
use Rattle.promises.specs.Words.{At, Touched, acted-on, came}
use Rattle.promises.proofs.Proofs.Decoded.{or_cases, or-first, or-second}
use Rattle.promises.proofs.Proofs.Selection.{at_same}
use Rattle.promises.proofs.Proofs.Steps.{FiredBy, WaitedBy, step-fired, step-waited}
use Rattle.promises.proofs.Proofs.Firing.{fired-rule}
pub use Rattle.promises.proofs.Proofs.MarkedBit.{On}
use Rattle.promises.proofs.Proofs.MarkedBit.{acted-action, action-acted, touched, mark-bit, mark-past, arrived-came, came-arrived}

module _ (as' : List Action) (s s' : State) where
  mark-inside : (b : ℕ) → bit (mark_of as' s s') b ≡ true → (b < length s.buffers) × ((touched as' s s') b ≡ true)
  mark-inside b e =
      by-lt b (length s.buffers) (λ h. (h, sym ((mark-bit as' s s') b h) ∙ e)) (λ h. absurd (no_true (sym e ∙ (mark-past as' s s') b h)))

-- ---- the mark of a step

module _ (m : Model) (memory : List Fact) (us : List ℤ) (s : State) (table : List ℕ) where
  pub mark-touched : (e : Event) (s' : State) (mark : ℕ) → step m memory us s table ≡ step_made e s' mark → (b : ℕ) → bit mark b ≡ true → (b < length s.buffers) × Touched m s e s' b
  unfolding deed_on
  mark-touched (event_fired k) s' mark made b e =
      let f : FiredBy m memory us s table k s' mark = step-fired m memory us s table k s' mark made in
      let as' : List Action = f.candidate.rule.actions in
      let t : (b < length s.buffers) × ((acted_on as' b || arrived s s' b) ≡ true) = mark-inside as' s s' b (ap (λ (x : ℕ). bit x b) f.mark_is ∙ e) in (
        t.0,
        ⊎_elim (λ (a : acted_on as' b ≡ true). let o : On as' b = acted-action as' b a in acted-on refl (fired-rule m memory us s table k s' mark made).0 o.member o.buffer_is)
            (λ (a : arrived s s' b ≡ true). let c = arrived-came as' s s' b a in came c.0 c.1) (or_cases (acted_on as' b) (arrived s s' b) t.1),
      )
  mark-touched (event_waited ms) s' mark made b e =
      let f : WaitedBy m us s table ms s' mark = step-waited m memory us s table ms s' mark made in
      let t : (b < length s.buffers) × (arrived s s' b ≡ true) = mark-inside [] s s' b (ap (λ (x : ℕ). bit x b) f.mark_is ∙ e) in
      let c = arrived-came [] s s' b t.1 in
      (t.0, came c.0 c.1)

  touched-fired : (k : ℕ) (s' : State) (mark : ℕ) → step m memory us s table ≡ step_made (event_fired k) s' mark → (b : ℕ) → b < length s.buffers → Touched m s (event_fired k) s' b → bit mark b ≡ true
  touched-fired k s' mark made b h t =
      let f : FiredBy m memory us s table k s' mark = step-fired m memory us s table k s' mark made in
      ap (λ (x : ℕ). bit x b) (sym f.mark_is) ∙ mark-bit f.candidate.rule.actions s s' b h ∙ by t
    where
      fired : Rule
      fired = (step-fired m memory us s table k s' mark made).candidate.rule

      by : Touched m s (event_fired k) s' b → (acted_on fired.actions b || arrived s s' b) ≡ true
      by (acted-on {k = j} {r = r} {a = a} q at mem at_b) =
          let same : j ≡ k = cc in
          let its : fired ≡ r = at_same (fired-rule m memory us s table k s' mark made).0 (subst (λ (i : ℕ). At r i m.rules) same at) in
          or-first (acted_on fired.actions b) (arrived s s' b)
          (ap (λ (x : Rule). acted_on x.actions b) its ∙ ap (acted_on r.actions) (sym at_b) ∙ action-acted r.actions a mem)
      by (came p q) = or-second (acted_on fired.actions b) (arrived s s' b) (came-arrived [] s s' b p q)

  pub touched-mark : (e : Event) (s' : State) (mark : ℕ) → step m memory us s table ≡ step_made e s' mark → (b : ℕ) → (b < length s.buffers) × Touched m s e s' b → bit mark b ≡ true
  unfolding deed_on
  touched-mark (event_fired k) s' mark made b t = touched-fired k s' mark made b t.0 t.1
  touched-mark (event_waited ms) s' mark made b t =
      let f : WaitedBy m us s table ms s' mark = step-waited m memory us s table ms s' mark made in
      ap (λ (x : ℕ). bit x b) (sym f.mark_is) ∙ mark-bit [] s s' b t.0 ∙ by t.1
    where
      by : Touched m s (event_waited ms) s' b → arrived s s' b ≡ true
      by (acted-on q at mem at_b) = let z : ◌≡◌ {A = ℕ} 0 1 = cc in absurd (omega arith)
      by (came p q) = came-arrived [] s s' b p q
