-- A step taken apart: which rule fired or how long was waited, and when there is none.
use Rattle.std.specs.Prelude.{if◌then◌else◌, ◌≡◌, true, false, List, [], ◌∷◌, ℕ, zero, suc, ◌≤◌, ◌<◌, eqb, leb, ℤ}
use Rattle.std.proofs.Math.Path.{refl}
use Rattle.std.proofs.Common.{sym, ap, ◌∙◌, arith, eqb-true, eq-eqb, leb-true, leb-false, le-leb}
use Rattle.std.proofs.Math.Option.{Option, none, some}
use Rattle.meaning.specs.declared.State.{State}
use Rattle.meaning.specs.Base.{same}
use Rattle.meaning.specs.Numbers.{not_fresh, clock_full, halted}
use Rattle.meaning.specs.Model.{Model, Fact}
use Rattle.meaning.specs.Match.{entry_of}
use Rattle.meaning.specs.Choice.{Candidate, choose}
use Rattle.meaning.specs.Fire.{fire}
use Rattle.meaning.specs.Wait.{soonest, wait}
use Rattle.meaning.specs.Mark.{mark_of}
use Rattle.meaning.specs.Step.{Event, event_fired, event_waited, step_stopped, step_made, largest, unless_past, fire_step, wait_step, step_by, step}
use Rattle.laws.specs.BaseLaws.{no_true, and_left, and_right}

pub same_true : (xs ys : List ℕ) → same xs ys ≡ true → xs ≡ ys
same_true [] [] e = refl
same_true [] (y ∷ ys) e = absurd (no_true (sym e))
same_true (x ∷ xs) [] e = absurd (no_true (sym e))
same_true (x ∷ xs) (y ∷ ys) e =
    let p : x ≡ y = eqb-true x y (and_left (eqb x y) (same xs ys) e) in
    let q : xs ≡ ys = same_true xs ys (and_right (eqb x y) (same xs ys) e) in
    cc

pub same_refl : (xs : List ℕ) → same xs xs ≡ true
same_refl [] = refl
same_refl (x ∷ xs) = rw (eq-eqb x x refl) (same_refl xs)

-- a step that was stopped was not made
pub no-made : {C : Type 0} (n : ℕ) (e : Event) (s : State) (mark : ℕ) → step_stopped n ≡ step_made e s mark → C
no-made n e s mark h = let z : ◌≡◌ {A = ℕ} 0 1 = cc in absurd (omega arith)

-- ---- the end of a step: made if the clock does not pass

pub record InTime (e e' : Event) (s s' : State) (mark mark' : ℕ) : Type 0 where
  pub event_is : e ≡ e'
  pub state_is : s ≡ s'
  pub mark_is : mark ≡ mark'
  pub in_time : s'.clock ≤ largest

pub unless-made : (e e' : Event) (s s' : State) (mark mark' : ℕ) → unless_past e s mark ≡ step_made e' s' mark' → InTime e e' s s' mark mark'
unless-made e e' s s' mark mark' h =
    (elim (leb s.clock largest) as (λ t. leb s.clock largest ≡ t → (if t then step_made e s mark else step_stopped clock_full) ≡ step_made e' s' mark' → InTime e e' s s' mark mark') [
      | true ↦ λ t k.
          let q : s ≡ s' = cc in
          record { event_is = cc; state_is = q; mark_is = cc; in_time = rw q at (leb-true s.clock largest t) }
      | false ↦ λ t k. no-made clock_full e' s' mark' k
    ]) refl h

pub unless-stopped : (e : Event) (s : State) (mark n : ℕ) → unless_past e s mark ≡ step_stopped n → (n ≡ clock_full) × (largest < s.clock)
unless-stopped e s mark n h =
    (elim (leb s.clock largest) as (λ t. leb s.clock largest ≡ t → (if t then step_made e s mark else step_stopped clock_full) ≡ step_stopped n → (n ≡ clock_full) × (largest < s.clock)) [
      | true ↦ λ t k. no-made n e s mark (sym k)
      | false ↦ λ t k. (cc, omega (arith, leb-false s.clock largest t))
    ]) refl h

pub unless-full : (e : Event) (s : State) (mark : ℕ) → largest < s.clock → unless_past e s mark ≡ step_stopped clock_full
unless-full e s mark h =
    (elim (leb s.clock largest) as (λ t. leb s.clock largest ≡ t → (if t then step_made e s mark else step_stopped clock_full) ≡ step_stopped clock_full) [
      | true ↦ λ t. absurd (omega (arith, leb-true s.clock largest t))
      | false ↦ λ t. refl
    ]) refl

pub unless-on : (e : Event) (s : State) (mark : ℕ) → s.clock ≤ largest → unless_past e s mark ≡ step_made e s mark
unless-on e s mark h = rw (le-leb s.clock largest h) refl

-- ---- a firing

fire-made : (failure : ℕ) (memory : List Fact) (s : State) (c : Candidate) (e : Event) (s' : State) (mark : ℕ) → fire_step failure memory s c ≡ step_made e s' mark
    → (c.entry ≡ entry_of c.rule s)
    × InTime (event_fired c.number) e (fire failure memory c.rule c.entry s) s' (mark_of c.rule.actions s (fire failure memory c.rule c.entry s)) mark
unfolding fire_step
fire-made failure memory s c e s' mark h =
    let t' : State = fire failure memory c.rule c.entry s in
    let mk : ℕ = mark_of c.rule.actions s t' in
    (elim (same c.entry (entry_of c.rule s)) as
    (λ t. same c.entry (entry_of c.rule s) ≡ t → (if t then unless_past (event_fired c.number) t' mk else step_stopped not_fresh) ≡ step_made e s' mark
    → (c.entry ≡ entry_of c.rule s) × InTime (event_fired c.number) e t' s' mk mark) [
      | true ↦ λ t k. (same_true c.entry (entry_of c.rule s) t, unless-made (event_fired c.number) e t' s' mk mark k)
      | false ↦ λ t k. no-made not_fresh e s' mark k
    ]) refl h

-- an entry that is fresh is not refused
pub fire-fresh : (failure : ℕ) (memory : List Fact) (s : State) (c : Candidate) → c.entry ≡ entry_of c.rule s
    → let s' : State = fire failure memory c.rule c.entry s in fire_step failure memory s c ≡ unless_past (event_fired c.number) s' (mark_of c.rule.actions s s')
unfolding fire_step
fire-fresh failure memory s c e =
    let t : same c.entry (entry_of c.rule s) ≡ true = rw e (same_refl (entry_of c.rule s)) in
    rw t refl

-- ---- a made step, for any table

-- rule number k fired
pub record FiredBy (m : Model) (memory : List Fact) (us : List ℤ) (s : State) (table : List ℕ) (k : ℕ) (s' : State) (mark : ℕ) : Type 0 where
  pub candidate : Candidate
  pub chosen : choose m.rules us table ≡ some candidate
  pub number_is : candidate.number ≡ k
  pub entry_is : candidate.entry ≡ entry_of candidate.rule s
  pub state_is : fire m.failure memory candidate.rule candidate.entry s ≡ s'
  pub mark_is : mark_of candidate.rule.actions s s' ≡ mark
  pub in_time : s'.clock ≤ largest

-- so many ms were waited
pub record WaitedBy (m : Model) (us : List ℤ) (s : State) (table : List ℕ) (ms : ℕ) (s' : State) (mark : ℕ) : Type 0 where
  pub none_chosen : choose m.rules us table ≡ none
  pub some_time : 0 < ms
  pub ms_is : soonest 0 s.buffers ≡ ms
  pub state_is : wait ms s ≡ s'
  pub mark_is : mark_of [] s s' ≡ mark
  pub in_time : s'.clock ≤ largest

abbrev MadeBy : (m : Model) (memory : List Fact) (us : List ℤ) (s : State) (table : List ℕ) → Event → State → ℕ → Type 0
MadeBy m memory us s table (event_fired k) s' mark = FiredBy m memory us s table k s' mark
MadeBy m memory us s table (event_waited ms) s' mark = WaitedBy m us s table ms s' mark

module _ (m : Model) (memory : List Fact) (us : List ℤ) (s : State) (table : List ℕ) where
  by-fire : (c : Candidate) → choose m.rules us table ≡ some c → (e : Event) (s' : State) (mark : ℕ) → fire_step m.failure memory s c ≡ step_made e s' mark → MadeBy m memory us s table e s' mark
  by-fire c o e s' mark h =
      let p = fire-made m.failure memory s c e s' mark h in
      let i = p.1 in
      rw (← i.event_is) (record {
        candidate = c;
        chosen = o;
        number_is = refl;
        entry_is = p.0;
        state_is = i.state_is;
        mark_is = ap (mark_of c.rule.actions s) (sym i.state_is) ∙ i.mark_is;
        in_time = i.in_time;
      })

  by-wait : (n : ℕ) → soonest 0 s.buffers ≡ n → choose m.rules us table ≡ none → (e : Event) (s' : State) (mark : ℕ) → wait_step s n ≡ step_made e s' mark → MadeBy m memory us s table e s' mark
  by-wait zero d o e s' mark h = no-made halted e s' mark h
  by-wait (suc n) d o e s' mark h =
      let i : InTime (event_waited (suc n)) e (wait (suc n) s) s' (mark_of [] s (wait (suc n) s)) mark = unless-made (event_waited (suc n)) e (wait (suc n) s) s' (mark_of [] s (wait (suc n) s)) mark h in
      rw (← i.event_is) (record {
        none_chosen = o;
        some_time = omega arith;
        ms_is = d;
        state_is = i.state_is;
        mark_is = ap (mark_of [] s) (sym i.state_is) ∙ i.mark_is;
        in_time = i.in_time;
      })

  by-choice : (o : Option Candidate) → choose m.rules us table ≡ o → (e : Event) (s' : State) (mark : ℕ) → step_by m.failure memory s o ≡ step_made e s' mark → MadeBy m memory us s table e s' mark
  by-choice none q e s' mark h = by-wait (soonest 0 s.buffers) refl q e s' mark h
  by-choice (some c) q e s' mark h = by-fire c q e s' mark h

  pub step-made : (e : Event) (s' : State) (mark : ℕ) → step m memory us s table ≡ step_made e s' mark → MadeBy m memory us s table e s' mark
  unfolding step
  step-made e s' mark h = by-choice (choose m.rules us table) refl e s' mark h

  pub step-fired : (k : ℕ) (s' : State) (mark : ℕ) → step m memory us s table ≡ step_made (event_fired k) s' mark → FiredBy m memory us s table k s' mark
  step-fired k s' mark h = step-made (event_fired k) s' mark h

  pub step-waited : (ms : ℕ) (s' : State) (mark : ℕ) → step m memory us s table ≡ step_made (event_waited ms) s' mark → WaitedBy m us s table ms s' mark
  step-waited ms s' mark h = step-made (event_waited ms) s' mark h
