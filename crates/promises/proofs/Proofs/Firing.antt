-- The rule that fires matches, what a step makes of each buffer, and that what is cleared is gone.
use Rattle.std.specs.Prelude.{◌≡◌, refl, Bool, true, eqb, ℤ, length, get_or}
use Rattle.std.proofs.Common.{sym, subst, ◌∙◌, arith, zero-add, eqb-true}
use Rattle.std.proofs.Math.Path.{ap}
use mathlib.Core.List.{List, Memᴰ}
use Rattle.std.proofs.Math.Option.{Option, none, some}
use Prim.Native.Nat.{ℕ, ◌-◌, ◌<◌}
use Rattle.meaning.specs.declared.Buffer.{Buffer}
use Rattle.meaning.specs.declared.State.{State}
use Rattle.meaning.specs.Model.{Model, Rule, Test, Deed, deed_clear, Fact}
use Rattle.meaning.specs.State.{nothing, nil_after, buffer_of, visible}
use Rattle.meaning.specs.Match.{shows, matches, entry_of}
use Rattle.meaning.specs.Choice.{Candidate, candidates}
use Rattle.meaning.specs.Fire.{later, after, done, deed_on, fire}
use Rattle.meaning.specs.Wait.{wait}
use Rattle.meaning.specs.Step.{Event, event_fired, event_waited, step_made, step}
use Rattle.laws.specs.BaseLaws.{and_right, every-member}
use Rattle.laws.specs.ChoiceLaws.{Chosen, choose-best}
use Rattle.laws.specs.MarkLaws.{get_or-change}
use Rattle.promises.specs.Words.{At, Matching, nil_with}
use Rattle.promises.proofs.Proofs.Matching.{matches-tests, tests-show, matches-queries}
use Rattle.promises.proofs.Proofs.Selection.{Stands, candidate-stands, first_word, at_same}
use Rattle.promises.proofs.Proofs.Steps.{FiredBy, WaitedBy, step-fired, step-waited}

matches-shows : (r : Rule) (s : State) → matches r s ≡ true → (t : Test) → Memᴰ t r.tests → shows t (buffer_of s t.buffer) ≡ true
matches-shows r s h t at = every-member (λ t. shows t (buffer_of s t.buffer)) r.tests (tests-show s r.tests (matches-tests r s h)) at

module _ (m : Model) (memory : List Fact) (us : List ℤ) (s : State) (table : List ℕ) (k : ℕ) (s' : State) (mark : ℕ)
    (made : step m memory us s table ≡ step_made (event_fired k) s' mark) where
  abbrev how : FiredBy m memory us s table k s' mark
  how = step-fired m memory us s table k s' mark made

  abbrev candidate : Candidate
  candidate = how.candidate

  pub fired-rule : (At candidate.rule k m.rules) × (matches candidate.rule s ≡ true)
  fired-rule =
      let b : Chosen (candidates 0 m.rules us table) candidate = choose-best m.rules us table candidate how.chosen in
      let h : Stands 0 m.rules us table candidate = candidate-stands 0 m.rules us table b.candidate in
      let n : k ≡ h.place = sym how.number_is ∙ h.number_is ∙ zero-add h.place in
      (subst (λ (j : ℕ). At candidate.rule j m.rules) (sym n) h.rule_at, sym (ap (λ (e : List ℕ). eqb (get_or e 0 0) 1) how.entry_is ∙ first_word candidate.rule s) ∙ b.matching)

  pub fired-matching : Matching m s k
  fired-matching =
      let f = fired-rule in
      let r : Rule = candidate.rule in
      record { rule = r; numbered = f.0; matching = f.1; tests_hold = matches-shows r s f.1; queries_hold = matches-queries r s f.1 }

  -- the state after it is that of the rule with this number
  pub fired-state : (r : Rule) → At r k m.rules → s' ≡ fire m.failure memory r (entry_of r s) s
  fired-state r at =
      let q : candidate.rule ≡ r = at_same fired-rule.0 at in
      sym how.state_is ∙ ap (λ (e : List ℕ). fire m.failure memory candidate.rule e s) how.entry_is ∙ ap (λ (x : Rule). fire m.failure memory x (entry_of x s) s) q

  -- what it makes of a buffer, by its deed on it or none
  pub fired-after : (r : Rule) → At r k m.rules → (b : ℕ) → b < length s.buffers → (o : Option Deed) → deed_on r.actions b ≡ o
      → buffer_of s' b ≡ after m.failure memory (entry_of r s) (buffer_of s b) o
  unfolding fire
  fired-after r at b h o is =
      let f : ℕ → Buffer → Buffer = λ i x. after m.failure memory (entry_of r s) x (deed_on r.actions i) in
      ap (λ (x : State). buffer_of x b) (fired-state r at) ∙ get_or-change f 0 s.buffers b nothing h
      ∙ ap (λ (i : ℕ). after m.failure memory (entry_of r s) (buffer_of s b) (deed_on r.actions i)) (zero-add b)
      ∙ ap (λ (x : Option Deed). after m.failure memory (entry_of r s) (buffer_of s b) x) is

  pub fired-done : (r : Rule) → At r k m.rules → (b : ℕ) → b < length s.buffers → (d : Deed) → deed_on r.actions b ≡ some d
      → buffer_of s' b ≡ done m.failure memory (entry_of r s) (buffer_of s b) d
  fired-done r at b h d is = fired-after r at b h (some d) is

  pub fired-cleared : (r : Rule) → At r k m.rules → (b : ℕ) → b < length s.buffers → deed_on r.actions b ≡ some deed_clear → buffer_of s' b ≡ nil_after 0
  unfolding done
  fired-cleared r at b h is = fired-done r at b h deed_clear is

  -- a fired rule finds nothing but an empty chunk in a buffer that holds nil
  pub nil-unseen : (b : ℕ) (flag : Bool) → buffer_of s b ≡ nil_with 0 flag → (r : Rule) → At r k m.rules → (t : Test) → Memᴰ t r.tests → t.buffer ≡ b → t.isa ≡ 0
  nil-unseen b flag e r at t mem z =
      let q : candidate.rule ≡ r = at_same fired-rule.0 at in
      let h : shows t (buffer_of s t.buffer) ≡ true = matches-shows r s (ap (λ (x : Rule). matches x s) (sym q) ∙ fired-rule.1) t mem in
      let i : buffer_of s t.buffer ≡ nil_with 0 flag = ap (buffer_of s) z ∙ e in
      sym (eqb-true 0 t.isa (and_right (visible (nil_with 0 flag)) (eqb 0 t.isa) (rw i at h)))

-- what a wait makes of a buffer
pub waited-after : (m : Model) (memory : List Fact) (us : List ℤ) (s : State) (table : List ℕ) (ms : ℕ) (s' : State) (mark : ℕ) → step m memory us s table ≡ step_made (event_waited ms) s' mark
    → (b : ℕ) → b < length s.buffers → buffer_of s' b ≡ later ms (buffer_of s b)
unfolding wait
waited-after m memory us s table ms s' mark made b h =
    let w : WaitedBy m us s table ms s' mark = step-waited m memory us s table ms s' mark made in
    ap (λ (x : State). buffer_of x b) (sym w.state_is) ∙ get_or-change (λ i x. later ms x) 0 s.buffers b nothing h

-- ---- a buffer that holds nil holds it until a rule acts on it

module _ (m : Model) (memory : List Fact) (us : List ℤ) (s : State) (table : List ℕ) (s' : State) (mark b : ℕ) (there : b < length s.buffers)
    (flag : Bool) (nil : buffer_of s b ≡ nil_with 0 flag) where
  aged : (ms : ℕ) → later ms (buffer_of s b) ≡ nil_with 0 flag
  aged ms = let z : 0 - ms ≡ 0 = omega arith in ap (later ms) nil ∙ ap (λ (d : ℕ). nil_with d flag) z

  pub nil-stays : (e : Event) → step m memory us s table ≡ step_made e s' mark → ((k : ℕ) (r : Rule) → e ≡ event_fired k → At r k m.rules → deed_on r.actions b ≡ none)
      → buffer_of s' b ≡ nil_with 0 flag
  nil-stays (event_fired k) made spared =
      let f = fired-matching m memory us s table k s' mark made in
      fired-after m memory us s table k s' mark made f.rule f.numbered b there none (spared k f.rule refl f.numbered) ∙ aged 50
  nil-stays (event_waited ms) made spared = waited-after m memory us s table ms s' mark made b there ∙ aged ms
