-- A run with the fresh table makes the transitions in their order and ends as it must; so does one along a chain of calls, and no other way makes as many.
use Rattle.std.specs.Prelude.{◌≡◌, Bool, true, false, List, ◌∷◌, ℕ, zero, suc, ◌*◌, ◌≤◌}
use Rattle.std.proofs.Math.Path.{refl}
use Rattle.std.proofs.Common.{sym, ap, ap₂, subst, ◌∙◌, arith}
use Rattle.std.proofs.Math.Option.{Option, some}
use borrow.Author.Tests.{eq-eqb}
use Rattle.std.proofs.Math.ListN.{length}
use Rattle.meaning.specs.declared.State.{State}
use Rattle.meaning.specs.Model.{Model, Chunk}
use Rattle.meaning.specs.State.{well_formed}
use Rattle.meaning.specs.Read.{read_got}
use Rattle.meaning.specs.Image.{decode}
use Rattle.meaning.specs.Match.{fresh_table}
use Rattle.meaning.specs.Step.{Event, step_made, largest, step_of}
use Rattle.meaning.specs.Run.{Going, Timed, Run, run_from}
use Rattle.meaning.specs.Calls.{accepted, trace_lent}
use Rattle.meaning.specs.Fresh.{Moving, moving}
use Rattle.meaning.specs.Learning.{knowing, store_after, overfull}
use Rattle.meaning.specs.Store.{store_fits, store_of}
use Rattle.laws.specs.BaseLaws.{by-lt}
use Rattle.laws.specs.MatchLaws.{fresh-length}
use Rattle.promises.specs.Words.{Reached, ran_lent}
use Rattle.promises.specs.Published.{Transition, Stores, Transitions, no_step, one-step, done, full, over, crowded, RanOn}
use Rattle.promises.proofs.Proofs.Decoded.{RulesGood, good-known, decoded}
use Rattle.promises.proofs.Proofs.Runs.{chain-fresh}
use Rattle.promises.proofs.Proofs.Machines.{chain-well}
use Rattle.promises.proofs.Proofs.Steps.{unless-full, unless-on}
use Rattle.promises.proofs.Proofs.Knowing.{as-known, crowding, made-with, stopped-with}
use Rattle.promises.proofs.Proofs.Transitions.{transition-once, Outcome, goes, stays, outcome, stays-final}
use Rattle.promises.proofs.Proofs.Storing.{onward, stores-after, stores-once, without-room}
pub use Rattle.promises.proofs.Proofs.OutcomesMade.{made-transition, transition-step, transition-made, halt-final, final-halt, final-quiet, full-passes, passes-full, stopped-eight-nine, not-seven, freshly, known_step, known_step_lem, made-run}
use Rattle.promises.proofs.Proofs.OutcomesMade.{Goes, one_more, stopped-run}

pub run-goes : (m : Model) (d : RulesGood m) (n : ℕ) (g : Moving) → Goes m g n (run_from m n (freshly m g))
unfolding run_from
run-goes m d zero g = record { path = no_step; counted = refl; ended = done refl; fresh = refl }
run-goes m d (suc n) g = by (λ g'. run-goes m d n g') (outcome (knowing m g.store) (good-known m d g.store) g.state)
  where
    table : List ℕ
    table = fresh_table m.rules g.state

    -- a transition within the clock: with room, or without
    by-room : ((g' : Moving) → Goes m g' n (run_from m n (freshly m g'))) → (e : Event) (s' : State) (mark : ℕ) → Transition (knowing m g.store) g.state e s'
        → s'.clock ≤ largest
        → known_step m g ≡ step_made e s' mark → (b : Bool) → overfull (onward m g e s').store ≡ b → Goes m g (suc n) (run_from m (suc n) (freshly m g))
    by-room ih e s' mark t h q true o =
        let w = without-room (onward m g e s').store o in
        let after : Stores m g.state e g.store (some w.0) = subst (Stores m g.state e g.store) w.1 (stores-after m g.state e g.store) in
        stopped-run m n g 14 (stopped-with m g.store g.state table (crowding q o))
        (crowded (omega arith) (record { event = e; state = s'; transition = t; in_time = h; after = w.0; stores = after; too_many = w.2 }))
    by-room ih e s' mark t h q false o =
        subst (λ (r : Run Going). Goes m g (suc n) r) (sym (made-run m n g e s' mark (made-with m g.store g.state table e s' mark q o)))
        (one_more m g s' e n (run_from m n (freshly m (onward m g e s'))) t h o (ih (onward m g e s')))

    by : ((g' : Moving) → Goes m g' n (run_from m n (freshly m g'))) → Outcome (knowing m g.store) (good-known m d g.store) g.state
        → Goes m g (suc n) (run_from m (suc n) (freshly m g))
    by ih (goes e s' mark t q) =
        by-lt largest s'.clock
        (λ h.
        stopped-run m n g 8 (stopped-with m g.store g.state table (as-known (known_step_lem m g ∙ q ∙ unless-full e s' mark h)))
        (full (omega arith) (record { event = e; state = s'; transition = t; past = h })))
        (λ h. by-room ih e s' mark t h (known_step_lem m g ∙ q ∙ unless-on e s' mark h) (overfull (onward m g e s').store) refl)
    by ih (stays k z q) =
        stopped-run m n g 9 (stopped-with m g.store g.state table (as-known (known_step_lem m g ∙ q)))
        (over (omega arith) (stays-final (knowing m g.store) (good-known m d g.store) g.state k z))

-- ---- the call, with words lent or none

module _ (image : List ℕ) (m : Model) (at : ℕ) (d : decode image ≡ read_got m at) (lent : Option (List ℕ)) (fits : store_fits m.types lent ≡ true) where
  fresh-traced : (s : State) (steps : ℕ) → well_formed m s ≡ true → trace_lent image s (fresh_table m.rules s) steps lent ≡ run_from m steps (freshly m (moving s (store_of lent)))
  unfolding trace_lent accepted
  fresh-traced s steps w = rw (d, eq-eqb (length (fresh_table m.rules s)) (9 * length m.rules) (fresh-length m.rules s), w, fits) refl

  pub fresh-runs : (s : State) → well_formed m s ≡ true → (steps : ℕ)
      → let table : List ℕ = fresh_table m.rules s in let r : Run Going = trace_lent image s table steps lent in
      RanOn m (moving s (store_of lent)) steps r.events (ran_lent image s table steps lent) r.left.store
  fresh-runs s w steps =
      let g = subst (λ (r : Run Going). Goes m (moving s (store_of lent)) steps r) (sym (fresh-traced s steps w)) (run-goes m (decoded image m at d).rules_good steps (moving s (store_of lent))) in
      record { path = g.path; counted = g.counted; ended = g.ended; fresh = g.fresh }

  pub chain_runs : {s : State} {table : List ℕ} → Reached image s table → (steps : ℕ)
      → let r : Run Going = trace_lent image s table steps lent in RanOn m (moving s (store_of lent)) steps r.events (ran_lent image s table steps lent) r.left.store
  chain_runs {s} {table} r steps =
      subst (λ (t : List ℕ). let r : Run Going = trace_lent image s t steps lent in RanOn m (moving s (store_of lent)) steps r.events (ran_lent image s t steps lent) r.left.store)
      (sym (chain-fresh image m at d r)) (fresh-runs s (chain-well image m at d r) steps)

pub chain-step : (image : List ℕ) (m : Model) (at : ℕ) → decode image ≡ read_got m at → {s : State} {table : List ℕ} → Reached image s table
    → (store : Option (List Chunk)) (e : Event) (s' : State) (mark : ℕ) → step_of (knowing m store) s table ≡ step_made e s' mark → Transition (knowing m store) s e s'
chain-step image m at d {s} {table} r store e s' mark h =
    (made-transition (knowing m store) (good-known m (decoded image m at d).rules_good store) s e s' mark
    (sym (known_step_lem m (moving s store)) ∙ ap (step_of (knowing m store) s) (sym (chain-fresh image m at d r)) ∙ h)).0

-- there is no other way to make so many transitions
pub transitions-once : (m : Model) → RulesGood m → {es fs : List Timed} {g g₁ g₂ : Moving} → Transitions m es g g₁ → Transitions m fs g g₂ → length es ≡ length fs
    → (es ≡ fs) × (g₁ ≡ g₂)
transitions-once m d no_step no_step l = (refl, refl)
transitions-once m d no_step (one-step t c o r p) l = absurd (omega arith)
transitions-once m d (one-step t c o r p) no_step l = absurd (omega arith)
transitions-once m d (one-step {e} {es} {g} {g'' = g₁} {s'} {store' = a} t c o r p) (one-step {e = f} {es = fs} {g'' = g₂} {s' = t'} {store' = b} u h k v q) l =
    let once : (e ≡ f) × (s' ≡ t') = transition-once (knowing m g.store) (good-known m d g.store) g.state t u in
    let store : b ≡ a = sym (stores-once k) ∙ ap (λ (x : Event). store_after m g.state x g.store) (sym once.0) ∙ stores-once o in
    let same : moving t' b ≡ moving s' a = ap₂ (λ (x : State) (y : Option (List Chunk)). moving x y) (sym once.1) store in
    let rest : (es ≡ fs) × (g₁ ≡ g₂) = transitions-once m d p (subst (λ (x : Moving). Transitions m fs x g₂) same q) (omega arith) in
    (ap₂ (λ (x : Timed) (xs : List Timed). x ∷ xs) (ap₂ (λ (x : Event) (y : State). record { clock = y.clock; event = x }) once.0 once.1) rest.0, rest.1)
