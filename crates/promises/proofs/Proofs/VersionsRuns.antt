-- In a model without queries a run is the run of 01 but for flags: the same number, events, table and store. So the runs from two states that are the same but for flags are.
use Rattle.std.specs.Prelude.{if◌then◌else◌, ◌≡◌, Bool, true, false, leb, get_or, take, drop, ℤ, pos}
use Rattle.std.proofs.Math.Path.{refl, ap}
use Rattle.std.proofs.Common.{sym, ap₂, ◌∙◌, ⊎_elim}
use mathlib.Core.List.Memᴰ
use mathlib.Core.List.{List, [], ◌∷◌, Memᴰ}
use Rattle.std.proofs.Math.Option.{Option, none, some}
use Prim.Native.Nat.{ℕ, zero, suc, ◌+◌}
use Rattle.meaning.specs.declared.State.{State}
use Rattle.meaning.specs.Base.{keep, same}
use Rattle.meaning.specs.Highest.{highest}
use Rattle.meaning.specs.Numbers.{not_fresh, clock_full, store_full}
use Rattle.meaning.specs.Model.{Model, Rule, Action, Chunk, Fact}
use Rattle.meaning.specs.Choice.{Candidate, candidates, counts, lower, choose, utilities}
use Rattle.meaning.specs.Fire.{fire}
use Rattle.meaning.specs.Wait.{soonest, wait}
use Rattle.meaning.specs.Mark.{mark_of}
use Rattle.meaning.specs.Refresh.{refresh}
use Rattle.meaning.specs.Step.{Event, event_fired, event_waited, Step, step_stopped, step_made, largest, unless_past, fire_step, wait_step, step_by, step, step_of}
use Rattle.meaning.specs.Learning.{knowing, actions_of, store_after, overfull, if_room, step_with}
use Rattle.meaning.specs.Run.{Going, going, Run, before, go_on, run_from}
use Rattle.meaning.specs.Fresh.{choose_fresh, Move, stays, moves, moves_to, wait_fresh, move_by, move, move_of, Moving, moving, if_room_fresh, move_with, move_on, fresh_from}
use Rattle.laws.specs.ChoiceLaws.{choose-best}
use Rattle.promises.specs.Before.{NoQueries, entry_of01, unflagged, unflagged_run, unflagged_fresh, wait01, fire_step01, wait_step01, step_by01, step01}
use Rattle.promises.specs.Before.{go_on01, run_from01, wait_fresh01, move_by01, move01, fresh_from01}
use Rattle.promises.proofs.Proofs.VersionsFlags.{entry-before, refresh-before, matched-before, soonest-unflagged, cleared-unflagged, mark-unflagged, fire-before, wait-before}

-- ---- the rule that is chosen is one of the model's

candidate-rule : (k : ℕ) (rules : List Rule) (us : List ℤ) (table : List ℕ) {c : Candidate} → Memᴰ c (candidates k rules us table) → Memᴰ c.rule rules
unfolding candidates
candidate-rule k [] us table h = absurd (Memᴰ.not-nil h)
candidate-rule k (r ∷ rs) us table {c} h =
    ⊎_elim (λ (q : c ≡ record { number = k; rule = r; utility = get_or us 0 (pos 0); entry = take 9 table }). Memᴰ.head (ap (λ (x : Candidate). x.rule) q))
    (λ (m : Memᴰ c (candidates (k + 1) rs (drop 1 us) (drop 9 table))). Memᴰ.tail (candidate-rule (k + 1) rs (drop 1 us) (drop 9 table) m))
    (Memᴰ.cases_cons h)

-- ---- a step but for flags

-- what is made of a choice is the choice of what is made
chosen : {A B : Type 0} (f : A → B) (t : Bool) (x y : A) → f (if t then x else y) ≡ (if t then f x else f y)
chosen f true x y = refl
chosen f false x y = refl

abbrev unflagged_step : Step → Step
unflagged_step (step_stopped n) = step_stopped n
unflagged_step (step_made e s mark) = step_made e (unflagged s) mark

-- a state after a step is marked as it was, and the clock stops it as it did
past-before : (e : Event) (as' : List Action) (s s' t' : State) → unflagged s' ≡ t'
    → unflagged_step (unless_past e s' (mark_of as' s s')) ≡ unless_past e t' (mark_of as' (unflagged s) t')
past-before e as' s s' t' after =
    chosen unflagged_step (leb s'.clock largest) (step_made e s' (mark_of as' s s')) (step_stopped clock_full)
    ∙ ap₂ (unless_past e) after (sym (mark-unflagged as' s s') ∙ ap (mark_of as' (unflagged s)) after)

fired-before : (failure : ℕ) (memory : List Fact) (s : State) (c : Candidate) → c.rule.queries ≡ []
    → unflagged_step (fire_step failure memory s c) ≡ fire_step01 failure memory (unflagged s) c
unfolding fire_step fire_step01
fired-before failure memory s c bare =
    let s' : State = fire failure memory c.rule c.entry s in
    let past = past-before (event_fired c.number) c.rule.actions s s' _ (fire-before failure memory c.entry c.rule s) in
    let fresh : Bool = same c.entry (entry_of01 c.rule (unflagged s)) in
    rw (entry-before c.rule bare s)
    (chosen unflagged_step fresh (unless_past (event_fired c.number) s' (mark_of c.rule.actions s s')) (step_stopped not_fresh)
    ∙ ap (λ (st : Step). if fresh then st else step_stopped not_fresh) past)

waited-before : (s : State) (ms : ℕ) → unflagged_step (wait_step s ms) ≡ wait_step01 (unflagged s) ms
waited-before s zero = refl
waited-before s (suc n) = past-before (event_waited (suc n)) [] s (wait (suc n) s) (wait01 (suc n) (unflagged s)) (wait-before (suc n) s)

step-before : (m : Model) → NoQueries m.rules → (s : State) (table : List ℕ) → unflagged_step (step_of m s table) ≡ step01 m (unflagged s) table
unfolding step step01
step-before m bare s table = by (choose m.rules (utilities m.rules) table) refl
  where
    by : (o : Option Candidate) → choose m.rules (utilities m.rules) table ≡ o
        → unflagged_step (step_by m.failure m.facts s o) ≡ step_by01 m.failure m.facts (unflagged s) o
    by none e = rw (soonest-unflagged 0 s.buffers) (waited-before s (soonest 0 s.buffers))
    by (some c) e =
        fired-before m.failure m.facts s c
        (bare c.rule (candidate-rule 0 m.rules (utilities m.rules) table (choose-best m.rules (utilities m.rules) table c e).candidate))

-- ---- with a store

store-unflagged : (m : Model) (s : State) (e : Event) (store : Option (List Chunk)) → store_after m (unflagged s) e store ≡ store_after m s e store
store-unflagged m s e none = refl
store-unflagged m s (event_fired k) (some store) = rw (cleared-unflagged (actions_of m.rules k) 0 s.buffers) refl
store-unflagged m s (event_waited ms) (some store) = refl

room-unflagged : (m : Model) (store : Option (List Chunk)) (s : State) (st : Step) → unflagged_step (if_room m store s st) ≡ if_room m store (unflagged s) (unflagged_step st)
room-unflagged m store s (step_stopped n) = refl
room-unflagged m store s (step_made e s' mark) =
    rw (store-unflagged m s e store) (chosen unflagged_step (overfull (store_after m s e store)) (step_stopped store_full) (step_made e s' mark))

known-bare : (m : Model) (store : Option (List Chunk)) → NoQueries m.rules → NoQueries (knowing m store).rules
known-bare m none bare = bare
known-bare m (some cs) bare = bare

with-before : (m : Model) → NoQueries m.rules → (store : Option (List Chunk)) (s : State) (table : List ℕ)
    → unflagged_step (step_with m store s table) ≡ if_room m store (unflagged s) (step01 (knowing m store) (unflagged s) table)
with-before m bare store s table =
    room-unflagged m store s (step_of (knowing m store) s table) ∙ ap (if_room m store (unflagged s)) (step-before (knowing m store) (known-bare m store bare) s table)

-- ---- a step without a table, so

abbrev unflagged_move : Move → Move
unflagged_move (stays n) = stays n
unflagged_move (moves e s) = moves e (unflagged s)

moves_before : (e : Event) (s t : State) → unflagged s ≡ t → unflagged_move (moves_to e s) ≡ moves_to e t
moves_before e s t after =
    chosen unflagged_move (leb s.clock largest) (moves e s) (stays clock_full) ∙ ap (moves_to e) after

waited-fresh-before : (s : State) (ms : ℕ) → unflagged_move (wait_fresh s ms) ≡ wait_fresh01 (unflagged s) ms
waited-fresh-before s zero = refl
waited-fresh-before s (suc n) = moves_before (event_waited (suc n)) (wait (suc n) s) (wait01 (suc n) (unflagged s)) (wait-before (suc n) s)

moved_before : (failure : ℕ) (memory : List Fact) (s : State) (o : Option Candidate) → unflagged_move (move_by failure memory s o) ≡ move_by01 failure memory (unflagged s) o
moved_before failure memory s none = rw (soonest-unflagged 0 s.buffers) (waited-fresh-before s (soonest 0 s.buffers))
moved_before failure memory s (some c) = moves_before (event_fired c.number) _ _ (fire-before failure memory c.entry c.rule s)

move-before : (m : Model) → NoQueries m.rules → (s : State) → unflagged_move (move_of m s) ≡ move01 m (unflagged s)
unfolding move move01 choose_fresh
move-before m bare s =
    moved_before m.failure m.facts s (choose_fresh m.rules (utilities m.rules) s)
    ∙ ap (λ (cs : List Candidate). move_by01 m.failure m.facts (unflagged s) (highest lower none (keep counts cs)))
    (matched-before 0 m.rules (utilities m.rules) bare s)

room-fresh-unflagged : (m : Model) (store : Option (List Chunk)) (s : State) (v : Move)
    → unflagged_move (if_room_fresh m store s v) ≡ if_room_fresh m store (unflagged s) (unflagged_move v)
room-fresh-unflagged m store s (stays n) = refl
room-fresh-unflagged m store s (moves e s') =
    rw (store-unflagged m s e store) (chosen unflagged_move (overfull (store_after m s e store)) (stays store_full) (moves e s'))

with-fresh-before : (m : Model) → NoQueries m.rules → (store : Option (List Chunk)) (s : State)
    → unflagged_move (move_with m store s) ≡ if_room_fresh m store (unflagged s) (move01 (knowing m store) (unflagged s))
with-fresh-before m bare store s =
    room-fresh-unflagged m store s (move_of (knowing m store) s) ∙ ap (if_room_fresh m store (unflagged s)) (move-before (knowing m store) (known-bare m store bare) s)

-- ---- a run

module _ (m : Model) (bare : NoQueries m.rules) where
  -- a step, and from there a run that is the one of 01 but for flags
  abbrev GoingOn : (Going → Run Going) → (Going → Run Going) → Type 0
  GoingOn next next' = (s : State) (table : List ℕ) (store : Option (List Chunk)) → unflagged_run (next (going s table store)) ≡ next' (going (unflagged s) table store)

  on-before : (next next' : Going → Run Going) → GoingOn next next' → (s : State) (table : List ℕ) (store : Option (List Chunk)) (st : Step)
      → unflagged_run (go_on m (going s table store) next st) ≡ go_on01 m (going (unflagged s) table store) next' (unflagged_step st)
  on-before next next' h s table store (step_stopped n) = refl
  on-before next next' h s table store (step_made e s' mark) =
      ap (before (record { clock = s'.clock; event = e }))
      (h s' (refresh m.rules s' mark table) (store_after m s e store)
      ∙ ap₂ (λ (x : List ℕ) (y : Option (List Chunk)). next' (going (unflagged s') x y)) (refresh-before m.rules bare s' mark table) (sym (store-unflagged m s e store)))

  pub run-before : (n : ℕ) → GoingOn (run_from m n) (run_from01 m n)
  unfolding run_from run_from01
  run-before zero s table store = refl
  run-before (suc n) s table store =
      on-before (λ g. run_from m n g) (λ g. run_from01 m n g) (run-before n) s table store (step_with m store s table)
      ∙ ap (go_on01 m (going (unflagged s) table store) (λ g. run_from01 m n g)) (with-before m bare store s table)

  abbrev MovingOn : (Moving → Run Moving) → (Moving → Run Moving) → Type 0
  MovingOn next next' = (s : State) (store : Option (List Chunk)) → unflagged_fresh (next (moving s store)) ≡ next' (moving (unflagged s) store)

  on-fresh-before : (next next' : Moving → Run Moving) → MovingOn next next' → (s : State) (store : Option (List Chunk)) (v : Move)
      → unflagged_fresh (move_on m (moving s store) next v) ≡ move_on m (moving (unflagged s) store) next' (unflagged_move v)
  on-fresh-before next next' h s store (stays n) = refl
  on-fresh-before next next' h s store (moves e s') =
      ap (before (record { clock = s'.clock; event = e }))
      (h s' (store_after m s e store) ∙ ap (λ (x : Option (List Chunk)). next' (moving (unflagged s') x)) (sym (store-unflagged m s e store)))

  pub fresh-run-before : (n : ℕ) → MovingOn (fresh_from m n) (fresh_from01 m n)
  unfolding fresh_from fresh_from01
  fresh-run-before zero s store = refl
  fresh-run-before (suc n) s store =
      on-fresh-before (λ g. fresh_from m n g) (λ g. fresh_from01 m n g) (fresh-run-before n) s store (move_with m store s)
      ∙ ap (move_on m (moving (unflagged s) store) (λ g. fresh_from01 m n g)) (with-fresh-before m bare store s)

  -- ---- so it is from two states that are the same but for flags

  pub run-alike : (n : ℕ) (s t : State) (table : List ℕ) (store : Option (List Chunk)) → unflagged s ≡ unflagged t
      → unflagged_run (run_from m n (going s table store)) ≡ unflagged_run (run_from m n (going t table store))
  run-alike n s t table store alike =
      run-before n s table store ∙ ap (λ (x : State). run_from01 m n (going x table store)) alike ∙ sym (run-before n t table store)

  pub fresh-run-alike : (n : ℕ) (s t : State) (store : Option (List Chunk)) → unflagged s ≡ unflagged t
      → unflagged_fresh (fresh_from m n (moving s store)) ≡ unflagged_fresh (fresh_from m n (moving t store))
  fresh-run-alike n s t store alike =
      fresh-run-before n s store ∙ ap (λ (x : State). fresh_from01 m n (moving x store)) alike ∙ sym (fresh-run-before n t store)
