-- Laws of the calls on words to which a store may be lent: a word too large stands for a state that is well formed in no model, and all words stay.
use Rattle.std.specs.Prelude.{if◌then◌else◌}
use Prim.Native.Nat.{ℕ, ◌≤◌}
use mathlib.Core.Path.{◌≡◌, refl, ap, ◌∙◌}
use mathlib.Core.Bool.{Bool, true, false}
use mathlib.Core.List.{List, []}
use Rattle.meaning.specs.declared.State.{State}
use Rattle.meaning.specs.Image.{decode}
use Rattle.meaning.specs.Run.{Going, Run}
use Rattle.meaning.specs.Store.{lent_by, store_left}
use Rattle.meaning.specs.Calls.{accepted, place_of, Ran, WithStore, ran_by, trace_lent, run_lent}
use Rattle.meaning.specs.Fresh.{Moving, FreshRan, fresh_ran_by, fresh_trace_lent, fresh_lent}
use Rattle.step_note.specs.Events.{inscribed}
use Rattle.laws.specs.CallsLaws.{run-lent-place, fresh-lent-place}
use Rattle.jirvuntsag.specs.Words.{state_of, words_of, fits, unfit_state, given_by}
use Rattle.jirvuntsag.specs.Told.{answer, unfit_answer, Told, told, told_run}
use Rattle.jirvuntsag.specs.Fresh.{FreshTold, fresh_told, told_fresh}
use Rattle.jirvuntsag.specs.Lent.{told_with, run_lent_in, lent_events_in, fresh_lent_in, fresh_lent_events_in}
use Rattle.jirvuntsag.proofs.ToldLaws.{unfit-ran}
use Rattle.jirvuntsag.proofs.FreshLaws.{unfit-fresh}

-- ---- with a table

module _ (image w table : List ℕ) (steps lent : ℕ) (store : List ℕ) where
  -- the position is small enough for its place in the answer
  pub lent-near : (s : State) (r : WithStore Ran) → r ≡ run_lent image s table steps lent store → r.answer.position ≤ 524288
  lent-near s r e = rw e (run-lent-place image s table steps lent store)

  -- what a run comes to, where the state's words are written back or not
  abbrev left : Bool → WithStore Ran → WithStore Told
  left b r = told_with (told (answer r.answer.number r.answer.made r.answer.position) (if b then words_of r.answer.state else w) r.answer.table) r.store

  run_by : (b : Bool) → left b (run_lent image (if b then state_of w else unfit_state) table steps lent store)
      ≡ (if b then told_with (told_run (run_lent image (state_of w) table steps lent store).answer) (run_lent image (state_of w) table steps lent store).store
      else told_with (told (unfit_answer (accepted image table)) w table) store)
  unfolding run_lent trace_lent store_left
  run_by true = refl
  run_by false =
      ap (λ (r : Run Going). left false (record { answer = ran_by (place_of (accepted image table)) r; store = store_left store r.left.store }))
      (unfit-ran table steps (lent_by lent store) (accepted image table))

  pub lent-told : (b : Bool) (s : State) (r : Ran) (store' : List ℕ) (a : ℕ) (w' : List ℕ) → b ≡ fits w → s ≡ given_by w
      → record { answer = r; store = store' } ≡ run_lent image s table steps lent store
      → w' ≡ (if b then words_of r.state else w) → a ≡ answer r.number r.made r.position
      → told_with (told a w' r.table) store' ≡ run_lent_in image w table steps lent store
  unfolding run_lent_in
  lent-told b s r store' a w' f g e l n =
      rw (n, l, f) (ap (left (fits w)) (e ∙ ap (λ (s : State). run_lent image s table steps lent store) g) ∙ run_by (fits w))

  events-by : (b : Bool) → (trace_lent image (if b then state_of w else unfit_state) table steps (lent_by lent store)).events
      ≡ (if b then (trace_lent image (state_of w) table steps (lent_by lent store)).events else [])
  unfolding trace_lent
  events-by true = refl
  events-by false = ap (λ (r : Run Going). r.events) (unfit-ran table steps (lent_by lent store) (accepted image table))

  pub lent-events-told : (s : State) (noted noted' : List ℕ) → s ≡ given_by w → noted' ≡ inscribed noted 0 (trace_lent image s table steps (lent_by lent store)).events
      → noted' ≡ inscribed noted 0 (lent_events_in image w table steps lent store)
  unfolding lent_events_in
  lent-events-told s noted noted' g e = e ∙ ap (inscribed noted 0) (ap (λ (s : State). (trace_lent image s table steps (lent_by lent store)).events) g ∙ events-by (fits w))

-- ---- without one

module _ (image w : List ℕ) (steps lent : ℕ) (store : List ℕ) where
  pub fresh-lent-near : (s : State) (r : WithStore FreshRan) → r ≡ fresh_lent image s steps lent store → r.answer.position ≤ 524288
  fresh-lent-near s r e = rw e (fresh-lent-place image s steps lent store)

  abbrev fresh_left : Bool → WithStore FreshRan → WithStore FreshTold
  fresh_left b r = told_with (fresh_told (answer r.answer.number r.answer.made r.answer.position) (if b then words_of r.answer.state else w)) r.store

  fresh-by : (b : Bool) → fresh_left b (fresh_lent image (if b then state_of w else unfit_state) steps lent store)
      ≡ (if b then told_with (told_fresh (fresh_lent image (state_of w) steps lent store).answer) (fresh_lent image (state_of w) steps lent store).store
      else told_with (fresh_told (unfit_answer (decode image)) w) store)
  unfolding fresh_lent fresh_trace_lent store_left
  fresh-by true = refl
  fresh-by false =
      ap (λ (r : Run Moving). fresh_left false (record { answer = fresh_ran_by (place_of (decode image)) r; store = store_left store r.left.store }))
      (unfit-fresh (lent_by lent store) steps (decode image))

  pub fresh-lent-told : (b : Bool) (s : State) (r : FreshRan) (store' : List ℕ) (a : ℕ) (w' : List ℕ) → b ≡ fits w → s ≡ given_by w
      → record { answer = r; store = store' } ≡ fresh_lent image s steps lent store
      → w' ≡ (if b then words_of r.state else w) → a ≡ answer r.number r.made r.position
      → told_with (fresh_told a w') store' ≡ fresh_lent_in image w steps lent store
  unfolding fresh_lent_in
  fresh-lent-told b s r store' a w' f g e l n =
      rw (n, l, f) (ap (fresh_left (fits w)) (e ∙ ap (λ (s : State). fresh_lent image s steps lent store) g) ∙ fresh-by (fits w))

  fresh-events-by : (b : Bool) → (fresh_trace_lent image (if b then state_of w else unfit_state) steps (lent_by lent store)).events
      ≡ (if b then (fresh_trace_lent image (state_of w) steps (lent_by lent store)).events else [])
  unfolding fresh_trace_lent
  fresh-events-by true = refl
  fresh-events-by false = ap (λ (r : Run Moving). r.events) (unfit-fresh (lent_by lent store) steps (decode image))

  pub fresh-lent-events-told : (s : State) (noted noted' : List ℕ) → s ≡ given_by w → noted' ≡ inscribed noted 0 (fresh_trace_lent image s steps (lent_by lent store)).events
      → noted' ≡ inscribed noted 0 (fresh_lent_events_in image w steps lent store)
  unfolding fresh_lent_events_in
  fresh-lent-events-told s noted noted' g e = e ∙ ap (inscribed noted 0) (ap (λ (s : State). (fresh_trace_lent image s steps (lent_by lent store)).events) g ∙ fresh-events-by (fits w))

-- ---- runs from the state that the words gave: what the work gave back is what the definition gives

pub lent-led : (image w table : List ℕ) (steps lent : ℕ) (store : List ℕ) (r : ℕ × State) (a : ℕ) (w' t s : List ℕ) → let d = run_lent image (given_by w) table steps lent store in
    a ≡ r.0 → w' ≡ (if fits w then words_of r.1 else w) → r.0 ≡ answer d.answer.number d.answer.made d.answer.position → r.1 ≡ d.answer.state → t ≡ d.answer.table → s ≡ d.store
    → told_with (told a w' t) s ≡ run_lent_in image w table steps lent store
lent-led image w table steps lent store r a w' t s n l e f g h =
    let d = run_lent image (given_by w) table steps lent store in
    rw (g, h) (lent-told image w table steps lent store (fits w) (given_by w) d.answer d.store a w' refl refl refl (rw (← f) l) (n ∙ e))

pub fresh-lent-led : (image w : List ℕ) (steps lent : ℕ) (store : List ℕ) (r : ℕ × State) (a : ℕ) (w' s : List ℕ) → let d = fresh_lent image (given_by w) steps lent store in
    a ≡ r.0 → w' ≡ (if fits w then words_of r.1 else w) → r.0 ≡ answer d.answer.number d.answer.made d.answer.position → r.1 ≡ d.answer.state → s ≡ d.store
    → told_with (fresh_told a w') s ≡ fresh_lent_in image w steps lent store
fresh-lent-led image w steps lent store r a w' s n l e f h =
    let d = fresh_lent image (given_by w) steps lent store in
    rw h (fresh-lent-told image w steps lent store (fits w) (given_by w) d.answer d.store a w' refl refl refl (rw (← f) l) (n ∙ e))
