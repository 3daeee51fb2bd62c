-- A run by what was decoded, and of a model that stands in words, with a store if one is lent.
use Prim.Native.Nat.{ℕ}
use mathlib.Core.Path.{◌≡◌, refl, sym, ap, ap₂, ◌∙◌, subst}
use mathlib.Core.Bool.{Bool, true}
use mathlib.Core.List.{List}
use mathlib.Core.Option.{Option, none}
use Rattle.meaning.specs.declared.State.{State}
use Rattle.meaning.specs.Model.{Model, Chunk}
use Rattle.meaning.specs.State.{well_formed}
use Rattle.meaning.specs.Read.{Read, read_refused, read_got}
use Rattle.meaning.specs.Image.{decode}
use Rattle.meaning.specs.Run.{ends}
use Rattle.meaning.specs.Store.{store_fits, store_of, store_left}
use Rattle.meaning.specs.Fresh.{moving, FreshRan, fresh_from}
use Rattle.laws.specs.StoreLaws.{extend, Grows, fresh-grows}
use Rattle.std.specs.Prelude.{Result, Err}
use Rattle.meaning.specs.declared.reasons.Refusal.{Refusal}
use Rattle.meaning.specs.Reasons.{number_of}
use Rattle.layout.specs.StateWords.{buffers_in, state_in}
use Rattle.layout_state.proofs.ValueLaws.{state-is}
use Rattle.step_learn.specs.Knows.{Knows, Stored}
use Rattle.step_note.specs.Events.{inscribed, Tells}
use Rattle.running.specs.declared.Went.{Went}
use Rattle.running.specs.Runs.{ended_by}
use Rattle.fresh_run.specs.Went.{WentMet}
use Rattle.call_store.specs.Lending.{lent_if}
use Rattle.call_store.proofs.AdmitLaws.{Unfit, ill, misfit}
use Rattle.fresh_call.specs.declared.FreshDone.{FreshDone}
use Rattle.fresh_call.specs.Answers.{FreshMet, answered, with_store, fresh_into}

abbrev done : ℕ → ℕ → State → ℕ → FreshDone
done number at s made = record { number = number; position = at; state = s; made = made }

-- a run that ends before its first step
nothing-done : (n at : ℕ) (s : State) (noted store : List ℕ) → Tells (fresh_into at store) (with_store (done n at s 0) store) (ends n (moving s none)) noted noted
unfolding inscribed store_left
nothing-done n at s noted store = record { is_run = refl; events = refl }

-- ---- by how the image was laid out

module _ (s : State) (steps : ℕ) (lent : Bool) (store image noted : List ℕ) where
  -- refused: nothing is done, and no event is noted
  pub fresh-refused : (f : Refusal) → read_refused (number_of f.reason) f.at ≡ decode image → (r : Result FreshDone Refusal) → r ≡ Err f
      → FreshMet (answered s r) (decode image) s steps noted noted lent store store
  fresh-refused f reads r is = rw (is, ← reads) (nothing-done (number_of f.reason) f.at s noted store)

  -- accepted: what is left, for the model that was laid out
  pub fresh-accepted : (m : Model) (q : ℕ) → read_got m q ≡ decode image → (r : FreshDone) (noted' store' : List ℕ)
      → FreshMet r (read_got m 0) s steps noted noted' lent store store' → FreshMet r (decode image) s steps noted noted' lent store store'
  fresh-accepted m q reads r noted' store' g = rw (← reads) g

-- what is met where as much is lent
pub lent_same : (r : FreshDone) (a : Read Model) (s : State) (steps : ℕ) (noted noted' store store' : List ℕ) (lent lent' : Bool) → lent ≡ lent'
    → FreshMet r a s steps noted noted' lent store store' → FreshMet r a s steps noted noted' lent' store store'
lent_same r a s steps noted noted' store store' lent lent' e met = subst (λ (b : Bool). FreshMet r a s steps noted noted' b store store') e met

-- ---- what a run has left in the store is what was there, and more after it

module _ (went : Went) (m : Model) (store : Option (List Chunk)) (w w' : List ℕ) (clock steps : ℕ) (noted noted' tape' : List ℕ)
    (met : WentMet went m store w w' clock steps noted noted' tape') where
  left_is : met.left ≡ (fresh_from m steps (moving (state_in w clock) store)).left.store
  left_is = ap (λ (x : Stored FreshRan). x.store) met.tells.is_run

  pub left-grows : Grows store met.left
  left-grows = let g = fresh-grows m steps (moving (state_in w clock) store) in (g.0, left_is ∙ g.1)

  pub left-known : Knows went.plan tape' m (extend store left-grows.0)
  left-known = rw left-grows.1 at met.knows

-- ---- of a model whose state stands in the words w

module _ (s : State) (steps : ℕ) (m : Model) (w : List ℕ) (stands : buffers_in w ≡ s.buffers) (lent : Bool) (store : List ℕ) where
  -- refused before its first step
  pub fresh-unfit : (n : ℕ) → Unfit m s (lent_if lent store) n → (r : FreshDone) → r ≡ done n 0 s 0 → (noted : List ℕ) → FreshMet r (read_got m 0) s steps noted noted lent store store
  fresh-unfit n (ill g) r e noted = rw (e, g) (nothing-done 6 0 s noted store)
  fresh-unfit n (misfit g f) r e noted = rw (e, g, f) (nothing-done 15 0 s noted store)

  pub fresh-went : well_formed m s ≡ true → store_fits m.types (lent_if lent store) ≡ true → (went : Went) (after : State) (w' noted noted' tape' store' : List ℕ)
      → after ≡ state_in w' went.clock
      → (met : WentMet went m (store_of (lent_if lent store)) w w' s.clock steps noted noted' tape')
      → store' ≡ store_left store (extend (store_of (lent_if lent store)) (left-grows went m _ w w' s.clock steps noted noted' tape' met).0)
      → FreshMet (done (ended_by went.ended) 0 after went.made) (read_got m 0) s steps noted noted' lent store store'
  fresh-went g f went after w' noted noted' tape' store' e met back =
      let here = state-is w s stands in
      let grown = left-grows went m _ w w' s.clock steps noted noted' tape' met in
      let kept = back ∙ ap (store_left store) (sym grown.1 ∙ left_is went m _ w w' s.clock steps noted noted' tape' met) in
      let answer = ap (λ (x : Stored FreshRan). x.answer) met.tells.is_run in
      let whole : Tells (fresh_into 0 store) (with_store (done (ended_by went.ended) 0 after went.made) store')
      (fresh_from m steps (moving (state_in w s.clock) (store_of (lent_if lent store)))) noted noted' =
      record { is_run = rw e (ap₂ (λ (a : FreshRan) (l : List ℕ). record { answer = a; store = l }) answer kept); events = met.tells.events } in
      rw (g, f) (rw here at whole)
