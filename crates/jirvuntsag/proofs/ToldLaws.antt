-- Laws of the calls on words: a word too large stands for a state that is well formed in no model, and the state's words stay.
use Rattle.std.specs.Prelude.{if◌then◌else◌}
use Prim.Native.Nat.{ℕ, ◌≤◌}
use mathlib.Core.Path.{◌≡◌, refl, ap, ◌∙◌}
use mathlib.Core.Bool.{Bool, true, false, ◌&&◌}
use mathlib.Core.List.{List, []}
use mathlib.Core.Option.{Option, none}
use lib.Dec.{ltb}
use lib.ListN.{length}
use Rattle.meaning.specs.declared.State.{State}
use Rattle.meaning.specs.Model.{Model}
use Rattle.meaning.specs.State.{well_formed}
use Rattle.meaning.specs.Read.{Read, read_refused, read_got}
use Rattle.meaning.specs.Run.{Going, going, Run, ends}
use Rattle.meaning.specs.Calls.{accepted, place_of, Needed, needed_of, Opened, open_of, Ran, traced_by, trace_lent, trace_of, ran_by, run_of, Refreshed, refresh_of, refreshed_by}
use Rattle.step_note.specs.Events.{inscribed}
use Rattle.laws.specs.CallsLaws.{needed-place, open-place, run-place, refresh-place}
use Rattle.jirvuntsag.specs.Words.{state_of, words_of, fits, unfit_state, given_by}
use Rattle.jirvuntsag.specs.Told.{answer, unfit_by, unfit_answer, told, told_needed, told_open, told_run, told_refresh, length_in, open_in, run_in, refresh_in, events_in}

and_none : (b : Bool) → (b && false) ≡ false
and_none true = refl
and_none false = refl

pub unfit : (m : Model) → well_formed m unfit_state ≡ false
unfolding well_formed
unfit m = rw (and_none (ltb 0 (length m.types)))

abbrev refreshed_none : ℕ → ℕ → List ℕ → Refreshed
refreshed_none n at table = record { number = n; position = at; count = 0; table = table }

-- ---- the position of what a call gave is small enough for its place in the answer

module _ (image : List ℕ) where
  pub needed-near : (o : Needed) → o ≡ needed_of image → o.position ≤ 524288
  needed-near o e = rw e (needed-place image)

  pub open-near : (table : List ℕ) (o : Opened) → o ≡ open_of image table → o.position ≤ 524288
  open-near table o e = rw e (open-place image table)

  pub run-near : (s : State) (table : List ℕ) (k : ℕ) (r : Ran) → r ≡ run_of image s table k → r.position ≤ 524288
  run-near s table k r e = rw e (run-place image s table k)

  pub refresh-near : (s : State) (k : ℕ) (table : List ℕ) (r : Refreshed) → r ≡ refresh_of image s k table → r.position ≤ 524288
  refresh-near s k table r e = rw e (refresh-place image s k table)

-- ---- what the calls answer on the unfit state

module _ (table : List ℕ) (k : ℕ) where
  pub unfit-ran : (lent : Option (List ℕ)) (r : Read Model) → traced_by unfit_state table lent k r ≡ ends (unfit_by r) (going unfit_state table none)
  unfit-ran lent (read_refused n at) = refl
  unfit-ran lent (read_got m at) = rw (unfit m)

  unfit-refreshed : (r : Read Model) → refreshed_by unfit_state k table r ≡ refreshed_none (unfit_by r) (place_of r) table
  unfit-refreshed (read_refused n at) = refl
  unfit-refreshed (read_got m at) = rw (unfit m)

-- ---- the table's length, and an opening

pub length-told : (image : List ℕ) (o : Needed) (a : ℕ) → o ≡ needed_of image → a ≡ told_needed o → a ≡ length_in image
unfolding length_in
length-told image o a e n = n ∙ ap told_needed e

pub open_told : (image table : List ℕ) (o : Opened) (a : ℕ) (w' : List ℕ) → o ≡ open_of image table
    → w' ≡ words_of o.state → a ≡ answer o.number 0 o.position → told a w' o.table ≡ open_in image table
unfolding open_in
open_told image table o a w' e l n = rw (n, l) (ap told_open e)

-- ---- a call on the state that the words gave

module _ (image w table : List ℕ) (k : ℕ) where
  run_by : (b : Bool) (r : Ran) → r ≡ run_of image (if b then state_of w else unfit_state) table k
      → told (answer r.number r.made r.position) (if b then words_of r.state else w) r.table
      ≡ (if b then told_run (run_of image (state_of w) table k) else told (unfit_answer (accepted image table)) w table)
  unfolding run_of trace_lent
  run_by true r e = ap told_run e
  run_by false r e =
      ap (λ (r : Ran). told (answer r.number r.made r.position) w r.table) (e ∙ ap (ran_by (place_of (accepted image table))) (unfit-ran table k none (accepted image table)))

  pub run-told : (b : Bool) (s : State) (r : Ran) (a : ℕ) (w' : List ℕ) → b ≡ fits w → s ≡ given_by w → r ≡ run_of image s table k
      → w' ≡ (if b then words_of r.state else w) → a ≡ answer r.number r.made r.position → told a w' r.table ≡ run_in image w table k
  unfolding run_in
  run-told b s r a w' f g e l n =
      rw (n, l, f) (run_by (fits w) r (e ∙ ap (λ (s : State). run_of image s table k) g))

  events-by : (b : Bool) → (trace_of image (if b then state_of w else unfit_state) table k).events ≡ (if b then (trace_of image (state_of w) table k).events else [])
  unfolding trace_lent
  events-by true = refl
  events-by false = ap (λ (r : Run Going). r.events) (unfit-ran table k none (accepted image table))

  pub events-told : (s : State) (lent lent' : List ℕ) → s ≡ given_by w → lent' ≡ inscribed lent 0 (trace_of image s table k).events
      → lent' ≡ inscribed lent 0 (events_in image w table k)
  unfolding events_in
  events-told s lent lent' g e = e ∙ ap (inscribed lent 0) (ap (λ (s : State). (trace_of image s table k).events) g ∙ events-by (fits w))

  refresh-by : (b : Bool) (r : Refreshed) → r ≡ refresh_of image (if b then state_of w else unfit_state) k table
      → told_refresh w r ≡ (if b then told_refresh w (refresh_of image (state_of w) k table) else told (unfit_answer (accepted image table)) w table)
  unfolding refresh_of
  refresh-by true r e = ap (told_refresh w) e
  refresh-by false r e = ap (told_refresh w) (e ∙ unfit-refreshed table k (accepted image table))

  pub refresh-told : (s : State) (r : Refreshed) (a : ℕ) → s ≡ given_by w → r ≡ refresh_of image s k table
      → a ≡ answer r.number r.count r.position → told a w r.table ≡ refresh_in image w k table
  unfolding refresh_in
  refresh-told s r a g e n = rw n (refresh-by (fits w) r (e ∙ ap (λ (s : State). refresh_of image s k table) g))

-- a run from the state that the words gave: what the work gave back is what the definition gives
pub run-led : (image w table : List ℕ) (k : ℕ) (r : ℕ × State) (a : ℕ) (w' t : List ℕ) → let d = run_of image (given_by w) table k in
    a ≡ r.0 → w' ≡ (if fits w then words_of r.1 else w) → r.0 ≡ answer d.number d.made d.position → r.1 ≡ d.state → t ≡ d.table → told a w' t ≡ run_in image w table k
run-led image w table k r a w' t n l e f g =
    let d = run_of image (given_by w) table k in
    rw g (run-told image w table k (fits w) (given_by w) d a w' refl refl refl (rw (← f) l) (n ∙ e))
