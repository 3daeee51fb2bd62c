-- The run without a table (request 2026-02): for every accepted image and every state, and whatever is lent, it answers what the kept run answers that is handed the fresh
-- table. So the tutor, who keeps a table over a chain of kept runs and refreshes, and the laboratory, which has none, can never see different runs.
use Rattle.std.specs.Prelude.{◌≡◌, ◌↔◌, ◌⊎◌, true, List, [], ℕ, ◌<◌, ℤ, length}
use Rattle.std.proofs.Math.Path.{refl, ap, subst}
use Rattle.std.proofs.Math.Option.{Option, none}
use Rattle.meaning.specs.declared.State.{State}
use Rattle.meaning.specs.Model.{Model, Rule, Chunk, Fact}
use Rattle.meaning.specs.State.{well_formed}
use Rattle.meaning.specs.Read.{read_refused, read_got}
use Rattle.meaning.specs.Image.{decode}
use Rattle.meaning.specs.Match.{fresh_table}
use Rattle.meaning.specs.Choice.{choose}
use Rattle.meaning.specs.Step.{Event, step_stopped, step_made, step}
use Rattle.meaning.specs.Store.{lent_by, store_fits, store_of, store_left}
use Rattle.meaning.specs.Run.{Going, Run}
use Rattle.meaning.specs.Calls.{place_of, trace_lent, trace_of, Ran, WithStore, run_lent, run_of}
use Rattle.meaning.specs.Fresh.{choose_fresh, stays, moves, move, Moving, moving, fresh_trace_lent, fresh_trace_of, FreshRan, fresh_ran_by, fresh_lent, fresh_of}
use Rattle.promises.specs.Words.{Reached, alone, AsKept, answer_of}
use Rattle.promises.specs.Published.{Follows}
use Rattle.promises.specs.Sentences.{Beforehand, GivenBare, AfterFresh}
use Rattle.promises.proofs.Proofs.Afresh as afresh
use Rattle.promises.proofs.Proofs.Lending.{none-freed}

-- ---- one step, whatever facts and utilities are handed over

-- The rule chosen among those matched afresh is the one chosen from the fresh table.
pub choice-as-kept : (rules : List Rule) (us : List ℤ) (s : State) → choose rules us (fresh_table rules s) ≡ choose_fresh rules us s
choice-as-kept rules us s = afresh.choice-fresh rules us s

module _ (m : Model) (memory : List Fact) (us : List ℤ) (s : State) where
  -- A step is made exactly if one is made with the fresh table, with the same event and the same state after it.
  pub moves-exactly : (e : Event) (s' : State) → (move m memory us s ≡ moves e s') ↔ ((mark : ℕ) × (step m memory us s (fresh_table m.rules s) ≡ step_made e s' mark))
  moves-exactly e s' = afresh.moves-exactly m memory us s e s'

  -- None is made exactly if none is made with it, for the same reason.
  pub stays-exactly : (n : ℕ) → (move m memory us s ≡ stays n) ↔ (step m memory us s (fresh_table m.rules s) ≡ step_stopped n)
  stays-exactly n = afresh.stays-exactly m memory us s n

-- ---- the run: every image, every state, well formed or not, and any number of steps, where a word says what is lent of the words beside it (request 2026-05)

module _ (image : List ℕ) (s : State) (asked lent : ℕ) (words : List ℕ) where
  abbrev kept_trace : List ℕ → Run Going
  kept_trace table = trace_lent image s table asked (lent_by lent words)

  abbrev fresh_trace : Run Moving
  fresh_trace = fresh_trace_lent image s asked (lent_by lent words)

  -- For an accepted image it is the kept run handed the fresh table and the same store: the same number, the same state, the same store, the same events in the same
  -- order with the same clocks.
  pub lent-as-kept : (m : Model) (end : ℕ) → decode image ≡ read_got m end → AsKept (kept_trace (fresh_table m.rules s)) fresh_trace
  lent-as-kept m end accepted = afresh.call-as-kept image s asked (lent_by lent words) m end accepted

  -- So the call gives the number, state and count of the kept run handed the fresh table, "and leaves the same store", word for word.
  pub lent-answers : (m : Model) (end : ℕ) → decode image ≡ read_got m end
      → let k : WithStore Ran = run_lent image s (fresh_table m.rules s) asked lent words in fresh_lent image s asked lent words ≡ record { answer = answer_of k.answer; store = k.store }
  unfolding fresh_lent run_lent
  lent-answers m end accepted =
      rw (afresh.answers-as-kept image s asked (lent_by lent words) m end accepted, (lent-as-kept m end accepted).same_store) refl

  -- A refused image gets the same number and position from both, whatever table the kept run is handed; the words beside stay.
  pub lent-refused-as-kept : (n at : ℕ) → decode image ≡ read_refused n at → (table : List ℕ)
      → (run_lent image s table asked lent words ≡ record { answer = record { number = n; position = at; state = s; table = table; made = 0 }; store = words })
      × (fresh_lent image s asked lent words ≡ record { answer = record { number = n; position = at; state = s; made = 0 }; store = words })
  unfolding run_lent fresh_lent store_left
  lent-refused-as-kept n at unread table =
      let b = afresh.both-refuse image s asked (lent_by lent words) n at unread table in (
        rw (b.0, afresh.kept-refuses image s asked (lent_by lent words) n at unread table) refl,
        rw (b.1, afresh.fresh-refuses image s asked (lent_by lent words) n at unread) refl,
      )

  -- After an accepted opening and any kept runs, refreshes, and changes of buffers that are refreshed with their mark, whatever table the caller then holds: it is
  -- the kept run handed that table and the same store.
  pub reached-lent-as-kept : (table : List ℕ) → Reached image s table → AsKept (kept_trace table) fresh_trace
  reached-lent-as-kept table r = afresh.reached-as-kept r asked (lent_by lent words)

  pub reached-lent-answers : (table : List ℕ) → Reached image s table
      → let k : WithStore Ran = run_lent image s table asked lent words in fresh_lent image s asked lent words ≡ record { answer = answer_of k.answer; store = k.store }
  unfolding fresh_lent run_lent
  reached-lent-answers table r = rw (afresh.reached-answers r asked (lent_by lent words), (reached-lent-as-kept table r).same_store) refl

  -- A number is answered exactly when its row holds and none before it: 1; 2, 3 and 11 to 13 in reading order; 4; 6; 15; then 0, 8, 9 or 14.
  pub fresh-lent-exactly : (n : ℕ) → ((fresh_lent image s asked lent words).answer.number ≡ n) ↔ GivenBare image (AfterFresh s (lent_by lent words) asked) n
  unfolding fresh_lent
  fresh-lent-exactly n = afresh.number-exactly image s (lent_by lent words) asked n

  -- An accepted image, a well-formed state and a store that fits are never refused: 0, 8, 9 or 14.
  pub fresh-lent-taken : (m : Model) (end : ℕ) → decode image ≡ read_got m end → well_formed m s ≡ true → store_fits m.types (lent_by lent words) ≡ true
      → let n : ℕ = (fresh_lent image s asked lent words).answer.number in (n ≡ 0) ⊎ ((n ≡ 8) ⊎ ((n ≡ 9) ⊎ (n ≡ 14)))
  unfolding fresh_lent
  fresh-lent-taken m end accepted well fits = afresh.ended-number (afresh.follows image s (lent_by lent words) asked m end accepted well fits).ended

  -- 5, 7 and 10 never come, nor does a number larger than 15.
  pub fresh-lent-never : let n : ℕ = (fresh_lent image s asked lent words).answer.number in (n ≡ 5 → ⊥) × (n ≡ 7 → ⊥) × (n ≡ 10 → ⊥) × (n < 16)
  unfolding fresh_lent
  fresh-lent-never = afresh.lent_never image s (lent_by lent words) asked

  -- Refused by 1 to 4, 6, 11 to 13 or 15, it gives the state back, counts nothing and leaves "the store unaltered",
  pub fresh-lent-refused : let a : FreshRan = (fresh_lent image s asked lent words).answer in Beforehand a.number
      → fresh_lent image s asked lent words ≡ record { answer = record { number = a.number; position = a.position; state = s; made = 0 }; store = words }
  unfolding fresh_lent store_left
  fresh-lent-refused b =
      ap (λ (r : Run Moving). record { answer = fresh_ran_by (place_of (decode image)) r; store = store_left words r.left.store }) (afresh.left-refused image s (lent_by lent words) asked b)

  -- and tells no event.
  pub fresh-lent-untold : Beforehand (fresh_lent image s asked lent words).answer.number → fresh_trace.events ≡ []
  unfolding fresh_lent
  fresh-lent-untold b = ap (λ (r : Run Moving). r.events) (afresh.left-refused image s (lent_by lent words) asked b)

  -- Demand 2 of this run by itself, with any store that fits: its steps are transitions of the published semantics in the order told, each with the memory that its
  -- store makes, as many as counted; there is no other path of so many; and the number says why there are no more.
  pub fresh-lent-published : (m : Model) (end : ℕ) → decode image ≡ read_got m end → well_formed m s ≡ true → store_fits m.types (lent_by lent words) ≡ true
      → let a : FreshRan = (fresh_lent image s asked lent words).answer in
      Follows m (moving s (store_of (lent_by lent words))) asked fresh_trace.events (moving a.state fresh_trace.left.store) a.made a.number
  unfolding fresh_lent
  fresh-lent-published m end accepted well fits = afresh.follows image s (lent_by lent words) asked m end accepted well fits

-- ---- the run with nothing lent

module _ (image : List ℕ) (s : State) (asked : ℕ) where
  -- For an accepted image it is the kept run handed the fresh table: the same number, the same state, the same events in the same order with the same clocks.
  pub fresh-as-kept : (m : Model) (end : ℕ) → decode image ≡ read_got m end → AsKept (trace_of image s (fresh_table m.rules s) asked) (fresh_trace_of image s asked)
  fresh-as-kept m end accepted = afresh.call-as-kept image s asked none m end accepted

  -- So the call gives "the number, state and count of the kept run handed the fresh table".
  pub fresh-answers : (m : Model) (end : ℕ) → decode image ≡ read_got m end → fresh_of image s asked ≡ answer_of (run_of image s (fresh_table m.rules s) asked)
  unfolding fresh_of run_of
  fresh-answers m end accepted = afresh.answers-as-kept image s asked none m end accepted

  -- "A refused image gets the same number from both", and the same position, whatever table the kept run is handed, with the state handed in and count 0,
  pub refused-as-kept : (n at : ℕ) → decode image ≡ read_refused n at → (table : List ℕ)
      → (run_of image s table asked ≡ record { number = n; position = at; state = s; table = table; made = 0 }) × (fresh_of image s asked ≡ record { number = n; position = at; state = s; made = 0 })
  unfolding fresh_of run_of
  refused-as-kept n at unread table = afresh.both-refuse image s asked none n at unread table

  -- and no event from either.
  pub refused-untold : (n at : ℕ) → decode image ≡ read_refused n at → (table : List ℕ) → ((trace_of image s table asked).events ≡ []) × ((fresh_trace_of image s asked).events ≡ [])
  refused-untold n at unread table = afresh.both-silent image s asked none n at unread table

  -- After an accepted opening and any kept runs, refreshes, and changes of buffers that are refreshed with their mark, whatever table the caller then holds: it is
  -- the kept run handed that table.
  pub reached-as-kept : (table : List ℕ) → Reached image s table → AsKept (trace_of image s table asked) (fresh_trace_of image s asked)
  reached-as-kept table r = afresh.reached-as-kept r asked none

  pub reached-answers : (table : List ℕ) → Reached image s table → fresh_of image s asked ≡ answer_of (run_of image s table asked)
  unfolding fresh_of run_of
  reached-answers table r = afresh.reached-answers r asked none

  -- ---- its numbers

  -- A number is answered exactly when its row holds and none before it: 1; 2, 3 and 11 to 13 in reading order; 4; 6; then 0, 8 or 9.
  pub fresh-exactly : (n : ℕ) → ((fresh_of image s asked).number ≡ n) ↔ GivenBare image (AfterFresh s none asked) n
  unfolding fresh_of
  fresh-exactly n = afresh.number-exactly image s none asked n

  -- An accepted image and a well-formed state are never refused: 0, 8 or 9.
  pub fresh-taken : (m : Model) (end : ℕ) → decode image ≡ read_got m end → well_formed m s ≡ true
      → let n : ℕ = (fresh_of image s asked).number in (n ≡ 0) ⊎ ((n ≡ 8) ⊎ (n ≡ 9))
  unfolding fresh_of
  fresh-taken m end accepted well = afresh.number-taken image s asked m end accepted well

  -- Refused by 1 to 4, 6 or 11 to 13, it gives the state back and counts nothing,
  pub fresh-refused : Beforehand (fresh_of image s asked).number
      → fresh_of image s asked ≡ record { number = (fresh_of image s asked).number; position = (fresh_of image s asked).position; state = s; made = 0 }
  unfolding fresh_of
  fresh-refused b = afresh.call-refused image s none asked b

  -- and tells no event.
  pub fresh-untold : Beforehand (fresh_of image s asked).number → (fresh_trace_of image s asked).events ≡ []
  unfolding fresh_of
  fresh-untold b = ap (λ (r : Run Moving). r.events) (afresh.left-refused image s none asked b)

  -- 5 and 7 "have no meaning here" and never come, nor does 10, or a number larger than 13.
  pub fresh-never : let n : ℕ = (fresh_of image s asked).number in (n ≡ 5 → ⊥) × (n ≡ 7 → ⊥) × (n ≡ 10 → ⊥) × (n < 14)
  unfolding fresh_of
  fresh-never = afresh.number-never image s asked

  -- ---- demand 2, of this run by itself

  -- From any well-formed state of an accepted image its steps are transitions of the published semantics in the order told, as many as counted; there is no other path
  -- of so many; and the number says why there are no more.
  pub fresh-published : (m : Model) (end : ℕ) → decode image ≡ read_got m end → well_formed m s ≡ true
      → let a : FreshRan = fresh_of image s asked in Follows m (alone s) asked (fresh_trace_of image s asked).events (alone a.state) a.made a.number
  unfolding fresh_of store_fits
  fresh-published m end accepted well =
      subst (λ (x : Option (List Chunk)). let r : Run Moving = fresh_trace_of image s asked in Follows m (alone s) asked r.events (moving r.left.state x) (length r.events) r.number)
      (none-freed image s asked) (afresh.follows image s none asked m end accepted well refl)
