-- A run by what was accepted, and of a model that stands in words, with a store if one is lent.
use Prim.Native.Nat.{ℕ}
use mathlib.Core.Path.{◌≡◌, refl, sym, ap, ap₂, ◌∙◌, subst}
use mathlib.Core.Bool.{Bool, true}
use mathlib.Core.List.{List}
use mathlib.Core.Option.{Option, none}
use lib.ListN.{length}
use Rattle.meaning.specs.declared.State.{State}
use Rattle.meaning.specs.Model.{Model, Chunk}
use Rattle.meaning.specs.State.{well_formed}
use Rattle.meaning.specs.Read.{Read, read_refused, read_got}
use Rattle.meaning.specs.Run.{Going, going, Run, ends, run_from}
use Rattle.meaning.specs.Store.{store_fits, store_of, store_left}
use Rattle.meaning.specs.Calls.{place_of, Ran, accepted, traced_by}
use Rattle.laws.specs.StoreLaws.{extend, Grows, run-grows}
use Rattle.layout.specs.StateWords.{buffers_in, state_in}
use Rattle.layout.specs.declared.Plan.{Plan}
use Rattle.layout.specs.Plans.{model_on}
use Rattle.layout_state.proofs.ValueLaws.{state-is}
use Rattle.running.specs.declared.Went.{Went}
use Rattle.running.specs.Runs.{ended_by}
use Rattle.step_learn.specs.Knows.{Knows, Stored}
use Rattle.step_note.specs.Events.{inscribed, Tells}
use Rattle.step_run.specs.Went.{WentMet}
use Rattle.std.specs.Prelude.{Result, Ok, Err}
use Rattle.meaning.specs.declared.reasons.Refusal.{Refusal}
use Rattle.meaning.specs.Reasons.{number_of}
use Rattle.read_image.specs.Whole.{header_of}
use Rattle.call_accept.specs.Acceptance.{settled, TakenMet}
use Rattle.call_accept.proofs.TakenLaws.{place-settled, by-taken, by-header}
use Rattle.call_store.specs.Lending.{lent_if}
use Rattle.call_store.proofs.AdmitLaws.{Unfit, ill, misfit}
use Rattle.call_run.specs.declared.RunDone.{RunDone}
use Rattle.call_run.specs.Answers.{RunMet, answered, given_with, with_store, ran_into}

abbrev done : ℕ → ℕ → State → ℕ → RunDone
done number at s made = record { number = number; position = at; state = s; made = made }

-- a run that ends before its first step
nothing-done : (n at : ℕ) (s : State) (table noted store : List ℕ) → Tells (ran_into at store) (with_store (done n at s 0) table store) (ends n (going s table none)) noted noted
unfolding inscribed store_left
nothing-done n at s table noted store = record { is_run = refl; events = refl }

-- ---- by what was accepted

module _ (s : State) (steps : ℕ) (lent : Bool) (store image table noted : List ℕ) where
  ran_settled : (a : Read Model) → traced_by s table (lent_if lent store) steps a ≡ traced_by s table (lent_if lent store) steps (settled a)
  ran_settled (read_refused n at) = refl
  ran_settled (read_got m at) = refl

  -- refused, by its header or later: nothing is done, and no event is noted
  pub run-header : (f : Refusal) → read_refused (number_of f.reason) f.at ≡ header_of image → (r : Result (Unit {0}) Refusal) (d : RunDone) → r ≡ Err f
      → RunMet (answered s (given_with r d)) (accepted image table) s table table steps noted noted lent store store
  run-header f e r d is =
      let n = number_of f.reason in
      rw (is, ← by-header place_of place-settled image table n f.at e, ← by-header (traced_by s table (lent_if lent store) steps) ran_settled image table n f.at e)
      (nothing-done n f.at s table noted store)

  module _ (p : Plan) (tape : List ℕ) where
    pub run-refused : (f : Refusal) → TakenMet (Err f) p image (length table) tape → (r : Result (Unit {0}) Refusal) (d : RunDone) → r ≡ Err f
        → RunMet (answered s (given_with r d)) (accepted image table) s table table steps noted noted lent store store
    run-refused f met r d is =
        rw (is, ← by-taken place_of place-settled image table (Err f) p tape met, ← by-taken (traced_by s table (lent_if lent store) steps) ran_settled image table (Err f) p tape met)
        (nothing-done (number_of f.reason) f.at s table noted store)

    -- accepted: what is left, for the model that was laid out
    pub run-accepted : (u : Unit {0}) → TakenMet (Ok u) p image (length table) tape → (r : RunDone) (table' noted' store' : List ℕ)
        → RunMet r (read_got (model_on p tape) 0) s table table' steps noted noted' lent store store'
        → RunMet r (accepted image table) s table table' steps noted noted' lent store store'
    run-accepted u met r table' noted' store' g =
        rw (by-taken place_of place-settled image table (Ok u) p tape met, by-taken (traced_by s table (lent_if lent store) steps) ran_settled image table (Ok u) p tape met) at g

-- what is met where as much is lent
pub lent_same : (r : RunDone) (a : Read Model) (s : State) (table table' : List ℕ) (steps : ℕ) (noted noted' store store' : List ℕ) (lent lent' : Bool) → lent ≡ lent'
    → RunMet r a s table table' steps noted noted' lent store store' → RunMet r a s table table' steps noted noted' lent' store store'
lent_same r a s table table' steps noted noted' store store' lent lent' e met = subst (λ (b : Bool). RunMet r a s table table' steps noted noted' b store store') e met

-- ---- what a run has left in the store is what was there, and more after it

module _ (went : Went) (m : Model) (store : Option (List Chunk)) (w w' : List ℕ) (clock : ℕ) (table table' : List ℕ) (steps : ℕ) (noted noted' tape' : List ℕ)
    (met : WentMet went m store w w' clock table table' steps noted noted' tape') where
  abbrev ran : Run Going
  ran = run_from m steps (going (state_in w clock) table store)

  left_is : met.left ≡ ran.left.store
  left_is = ap (λ (x : Stored Ran). x.store) met.tells.is_run

  pub left-grows : Grows store met.left
  left-grows = let g = run-grows m steps (going (state_in w clock) table store) in (g.0, left_is ∙ g.1)

  pub left-known : Knows went.plan tape' m (extend store left-grows.0)
  left-known = rw left-grows.1 at met.knows

-- ---- of a model whose state stands in the words w

module _ (s : State) (table : List ℕ) (steps : ℕ) (m : Model) (w : List ℕ) (stands : buffers_in w ≡ s.buffers) (lent : Bool) (store : List ℕ) where
  -- refused before its first step
  pub run-unfit : (n : ℕ) → Unfit m s (lent_if lent store) n → (r : RunDone) → r ≡ done n 0 s 0 → (noted : List ℕ) → RunMet r (read_got m 0) s table table steps noted noted lent store store
  run-unfit n (ill g) r e noted = rw (e, g) (nothing-done 6 0 s table noted store)
  run-unfit n (misfit g f) r e noted = rw (e, g, f) (nothing-done 15 0 s table noted store)

  pub run-went : well_formed m s ≡ true → store_fits m.types (lent_if lent store) ≡ true → (went : Went) (after : State) (w' table' noted noted' tape' store' : List ℕ)
      → after ≡ state_in w' went.clock
      → (met : WentMet went m (store_of (lent_if lent store)) w w' s.clock table table' steps noted noted' tape')
      → store' ≡ store_left store (extend (store_of (lent_if lent store)) (left-grows went m _ w w' s.clock table table' steps noted noted' tape' met).0)
      → RunMet (done (ended_by went.ended) 0 after went.made) (read_got m 0) s table table' steps noted noted' lent store store'
  run-went g f went after w' table' noted noted' tape' store' e met back =
      let here = state-is w s stands in
      let grown = left-grows went m _ w w' s.clock table table' steps noted noted' tape' met in
      let kept = back ∙ ap (store_left store) (sym grown.1 ∙ left_is went m _ w w' s.clock table table' steps noted noted' tape' met) in
      let answer = ap (λ (x : Stored Ran). x.answer) met.tells.is_run in
      let whole : Tells (ran_into 0 store) (with_store (done (ended_by went.ended) 0 after went.made) table' store')
      (run_from m steps (going (state_in w s.clock) table (store_of (lent_if lent store)))) noted noted' =
      record { is_run = rw e (ap₂ (λ (a : Ran) (l : List ℕ). record { answer = a; store = l }) answer kept); events = met.tells.events } in
      rw (g, f) (rw here at whole)
