-- Laws of the calls without a table on words: a word too large stands for a state that is well formed in no model, and the state's words stay.
use Rattle.std.specs.Prelude.{if◌then◌else◌}
use Prim.Native.Nat.{ℕ, ◌≤◌}
use mathlib.Core.Path.{◌≡◌, refl, ap, ◌∙◌}
use mathlib.Core.Bool.{Bool, true, false}
use mathlib.Core.List.{List, []}
use mathlib.Core.Option.{Option, none}
use Rattle.meaning.specs.declared.State.{State}
use Rattle.meaning.specs.Model.{Model}
use Rattle.meaning.specs.Read.{Read, read_refused, read_got}
use Rattle.meaning.specs.Image.{decode}
use Rattle.meaning.specs.Run.{Run, ends}
use Rattle.meaning.specs.Calls.{place_of}
use Rattle.meaning.specs.Fresh.{Moving, moving, FreshRan, fresh_by, fresh_ran_by, fresh_trace_lent, fresh_trace_of, fresh_of}
use Rattle.step_note.specs.Events.{inscribed}
use Rattle.laws.specs.CallsLaws.{fresh-place}
use Rattle.jirvuntsag.specs.Words.{state_of, words_of, fits, unfit_state, given_by}
use Rattle.jirvuntsag.specs.Told.{answer, unfit_by, unfit_answer}
use Rattle.jirvuntsag.specs.Fresh.{fresh_told, told_fresh, fresh_in, fresh_events_in}
use Rattle.jirvuntsag.proofs.ToldLaws.{unfit}

-- what the call answers on the unfit state
pub unfit-fresh : (lent : Option (List ℕ)) (k : ℕ) (r : Read Model) → fresh_by unfit_state lent k r ≡ ends (unfit_by r) (moving unfit_state none)
unfit-fresh lent k (read_refused n at) = refl
unfit-fresh lent k (read_got m at) = rw (unfit m)

-- the position is small enough for its place in the answer
pub fresh-near : (image : List ℕ) (s : State) (k : ℕ) (r : FreshRan) → r ≡ fresh_of image s k → r.position ≤ 524288
fresh-near image s k r e = rw e (fresh-place image s k)

module _ (image w : List ℕ) (k : ℕ) where
  fresh-by : (b : Bool) (r : FreshRan) → r ≡ fresh_of image (if b then state_of w else unfit_state) k
      → fresh_told (answer r.number r.made r.position) (if b then words_of r.state else w)
      ≡ (if b then told_fresh (fresh_of image (state_of w) k) else fresh_told (unfit_answer (decode image)) w)
  unfolding fresh_of fresh_trace_lent
  fresh-by true r e = ap told_fresh e
  fresh-by false r e = ap (λ (r : FreshRan). fresh_told (answer r.number r.made r.position) w) (e ∙ ap (fresh_ran_by (place_of (decode image))) (unfit-fresh none k (decode image)))

  pub fresh-told : (b : Bool) (s : State) (r : FreshRan) (a : ℕ) (w' : List ℕ) → b ≡ fits w → s ≡ given_by w → r ≡ fresh_of image s k
      → w' ≡ (if b then words_of r.state else w) → a ≡ answer r.number r.made r.position → fresh_told a w' ≡ fresh_in image w k
  unfolding fresh_in
  fresh-told b s r a w' f g e l n = rw (n, l, f) (fresh-by (fits w) r (e ∙ ap (λ (s : State). fresh_of image s k) g))

  events-by : (b : Bool) → (fresh_trace_of image (if b then state_of w else unfit_state) k).events ≡ (if b then (fresh_trace_of image (state_of w) k).events else [])
  unfolding fresh_trace_lent
  events-by true = refl
  events-by false = ap (λ (r : Run Moving). r.events) (unfit-fresh none k (decode image))

  pub fresh-events-told : (s : State) (lent lent' : List ℕ) → s ≡ given_by w → lent' ≡ inscribed lent 0 (fresh_trace_of image s k).events
      → lent' ≡ inscribed lent 0 (fresh_events_in image w k)
  unfolding fresh_events_in
  fresh-events-told s lent lent' g e = e ∙ ap (inscribed lent 0) (ap (λ (s : State). (fresh_trace_of image s k).events) g ∙ events-by (fits w))

-- a run from the state that the words gave: what the work gave back is what the definition gives
pub fresh-led : (image w : List ℕ) (k : ℕ) (r : ℕ × State) (a : ℕ) (w' : List ℕ) → let d = fresh_of image (given_by w) k in
    a ≡ r.0 → w' ≡ (if fits w then words_of r.1 else w) → r.0 ≡ answer d.number d.made d.position → r.1 ≡ d.state → fresh_told a w' ≡ fresh_in image w k
fresh-led image w k r a w' n l e f =
    fresh-told image w k (fits w) (given_by w) (fresh_of image (given_by w) k) a w' refl refl refl (rw (← f) l) (n ∙ e)
