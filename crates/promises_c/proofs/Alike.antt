-- The run without a table (request 2026-02) over what the calls give back and leave: nobody can tell it from the kept run that is handed the fresh table, nor where a
-- store is lent to both (request 2026-05).
use Rattle.std.specs.Prelude.{◌≡◌, true, false, ◌&&◌, List, ℕ, ◌*◌, ◌≤◌, ◌<◌, length, get_or}
use Rattle.std.proofs.Math.Option.{none}
use Rattle.meaning.specs.declared.State.{State}
use Rattle.meaning.specs.Numbers.{ill_formed, bad_store}
use Rattle.meaning.specs.Model.{Model}
use Rattle.meaning.specs.State.{well_formed}
use Rattle.meaning.specs.Read.{read_refused, read_got}
use Rattle.meaning.specs.Image.{decode}
use Rattle.meaning.specs.Match.{fresh_table}
use Rattle.meaning.specs.Step.{largest}
use Rattle.meaning.specs.Store.{lent_by, store_fits, store_of}
use Rattle.meaning.specs.Calls.{trace_lent, trace_of, WithStore, run_lent, run_of}
use Rattle.meaning.specs.Fresh.{moving, fresh_trace_lent, fresh_trace_of, FreshRan, fresh_lent, fresh_of}
use Rattle.step_note.specs.Events.{inscribed}
use Rattle.call_run.specs.declared.RunDone.{RunDone}
use Rattle.call_run.specs.Answers.{ran_back, with_store}
use Rattle.fresh_call.specs.declared.FreshDone.{FreshDone}
use Rattle.fresh_call.specs.Answers.{fresh_back}
use Rattle.fresh_call.specs.Answers.{with_store as fresh_with}
use Rattle.jirvuntsag.specs.Words.{state_of, fits}
use Rattle.jirvuntsag.specs.Told.{answer, told, run_in}
use Rattle.jirvuntsag.specs.Fresh.{FreshTold, fresh_in, fresh_events_in}
use Rattle.jirvuntsag.specs.Lent.{told_with, run_lent_in, fresh_lent_in, fresh_lent_events_in}
use Rattle.promises.specs.Words.{Reached, alone}
use Rattle.promises.specs.Published.{Follows}
use Rattle.promises.specs.Sentences.{Beforehand}
use Rattle.promises_c.specs.Handing.{number_in, count_in, fresh_ran_in, Held, FreshLeaves, lay_events, SameDone, SameTold, SameLent}
use Rattle.promises_c.proofs.Proofs.Alike as alike
use Rattle.promises_c.proofs.Proofs.Alone as lone
use Rattle.promises_c.proofs.Proofs.Lent as lending

-- ---- the calls in Rattle: any image, state, table and number of steps

module _ (image : List ℕ) (s : State) (table : List ℕ) (steps : ℕ) where
  -- Whatever `calls::run` and `calls::run_fresh` give back (or `trace` and `trace_fresh`), as long as each keeps its contract:
  module _ (r : RunDone) (left : List ℕ) (r' : FreshDone) (kept : ran_back r left ≡ run_of image s table steps) (fresh : fresh_back r' ≡ fresh_of image s steps) where
    -- for an accepted image and the fresh table, the same number, position, state and count;
    pub done-alike : (m : Model) (end : ℕ) → decode image ≡ read_got m end → table ≡ fresh_table m.rules s → SameDone r r'
    done-alike m end accepted e = alike.done-alike image s table steps r left r' kept fresh m end accepted e

    -- for an accepted image and a state that is not well formed, 6 from both, with no position, whatever table of the right length;
    pub done-unwell : (m : Model) (end : ℕ) → decode image ≡ read_got m end → well_formed m s ≡ false → length table ≡ 9 * length m.rules
        → (r.number ≡ ill_formed) × (r.position ≡ 0) × SameDone r r'
    done-unwell m end accepted ill long = alike.done-unwell image s table steps r left r' kept fresh m end accepted ill long

    -- for a refused image its number and its position from both, whatever table;
    pub done_refused : (n at : ℕ) → decode image ≡ read_refused n at → (r.number ≡ n) × (r.position ≡ at) × SameDone r r'
    done_refused n at unread = alike.done_refused image s table steps r left r' kept fresh n at unread

    -- and after a chain of kept runs and refreshes, whatever table is held then, the same number, position, state and count.
    pub done-reached : Reached image s table → SameDone r r'
    done-reached reached = alike.done-reached image s table steps r left r' kept fresh reached

  -- Whatever `calls::trace` and `calls::trace_fresh` leave in the words lent to each, if these were the same, as long as each keeps its contract:
  module _ (lent noted noted' : List ℕ) (kept : noted ≡ inscribed lent 0 (trace_of image s table steps).events) (fresh : noted' ≡ inscribed lent 0 (fresh_trace_of image s steps).events) where
    -- for an accepted image and the fresh table, every word is the same then;
    pub lent_alike : (m : Model) (end : ℕ) → decode image ≡ read_got m end → table ≡ fresh_table m.rules s → noted' ≡ noted
    lent_alike m end accepted e = alike.noted-alike image s table steps none lent noted noted' kept fresh m end accepted e

    -- for a state that is not well formed, and for a refused image, each leaves every word as it was;
    pub lent-unwell : (m : Model) (end : ℕ) → decode image ≡ read_got m end → well_formed m s ≡ false → length table ≡ 9 * length m.rules → (noted ≡ lent) × (noted' ≡ lent)
    lent-unwell m end accepted ill long = alike.noted-unwell image s table steps none lent noted noted' kept fresh m end accepted ill long

    pub lent-refused : (n at : ℕ) → decode image ≡ read_refused n at → (noted ≡ lent) × (noted' ≡ lent)
    lent-refused n at unread = alike.noted-refused image s table steps none lent noted noted' kept fresh n at unread

    -- and after a chain of kept runs and refreshes, whatever table is held then, every word is the same.
    pub lent-reached : Reached image s table → noted' ≡ noted
    lent-reached reached = alike.noted-reached image s table steps none lent noted noted' kept fresh reached

-- ---- the calls in Rattle where a word says what is lent of the words of a store beside it, any word and any words

module _ (image : List ℕ) (s : State) (table : List ℕ) (steps lent : ℕ) (words : List ℕ) where
  -- Whatever `calls::run_lent` and `calls::fresh_lent` give back and leave in the words of the store, as long as each keeps its contract:
  module _ (r : RunDone) (left stored : List ℕ) (r' : FreshDone) (stored' : List ℕ)
      (kept : with_store r left stored ≡ run_lent image s table steps lent words) (fresh : fresh_with r' stored' ≡ fresh_lent image s steps lent words) where
    -- for an accepted image and the fresh table, the same number, position, state and count, and the same words of the store;
    pub stored-alike : (m : Model) (end : ℕ) → decode image ≡ read_got m end → table ≡ fresh_table m.rules s → SameDone r r' × (stored' ≡ stored)
    stored-alike m end accepted e = alike.stored-alike image s table steps lent words r left stored r' stored' kept fresh m end accepted e

    -- for an accepted image and a state that is not well formed, 6 from both, whatever table of the right length, and every word of the store stays;
    pub stored-unwell : (m : Model) (end : ℕ) → decode image ≡ read_got m end → well_formed m s ≡ false → length table ≡ 9 * length m.rules
        → (r.number ≡ ill_formed) × (stored ≡ words) × (stored' ≡ words) × SameDone r r'
    stored-unwell m end accepted ill long = alike.stored-unwell image s table steps lent words r left stored r' stored' kept fresh m end accepted ill long

    -- for a refused image its number from both, whatever table, and every word of the store stays;
    pub stored_refused : (n at : ℕ) → decode image ≡ read_refused n at → (r.number ≡ n) × (stored ≡ words) × (stored' ≡ words) × SameDone r r'
    stored_refused n at unread = alike.stored_refused image s table steps lent words r left stored r' stored' kept fresh n at unread

    -- for a store that does not fit, beside a well-formed state, 15 from both, whatever table of the right length, and every word of the store stays;
    pub stored-misfit : (m : Model) (end : ℕ) → decode image ≡ read_got m end → well_formed m s ≡ true → store_fits m.types (lent_by lent words) ≡ false
        → length table ≡ 9 * length m.rules → (r.number ≡ bad_store) × (stored ≡ words) × (stored' ≡ words) × SameDone r r'
    stored-misfit m end accepted well bad long = alike.stored-misfit image s table steps lent words r left stored r' stored' kept fresh m end accepted well bad long

    -- and after a chain of kept runs, with any words lent, and refreshes, whatever table is held then, the same, and the same words of the store.
    pub stored-reached : Reached image s table → SameDone r r' × (stored' ≡ stored)
    stored-reached reached = alike.stored-reached image s table steps lent words r left stored r' stored' kept fresh reached

  -- Whatever they leave in the words for the events, if these were the same: for the fresh table, and for whatever table is held, every word is the same.
  module _ (events noted noted' : List ℕ) (kept : noted ≡ inscribed events 0 (trace_lent image s table steps (lent_by lent words)).events)
      (fresh : noted' ≡ inscribed events 0 (fresh_trace_lent image s steps (lent_by lent words)).events) where
    pub stored-noted-alike : (m : Model) (end : ℕ) → decode image ≡ read_got m end → table ≡ fresh_table m.rules s → noted' ≡ noted
    stored-noted-alike m end accepted e = alike.noted-alike image s table steps (lent_by lent words) events noted noted' kept fresh m end accepted e

    pub stored-noted-reached : Reached image s table → noted' ≡ noted
    stored-noted-reached reached = alike.noted-reached image s table steps (lent_by lent words) events noted noted' kept fresh reached

    -- For a refused image, a state that is not well formed, and a store that does not fit, each leaves every word as it was.
    pub stored-noted-refused : (n at : ℕ) → decode image ≡ read_refused n at → (noted ≡ events) × (noted' ≡ events)
    stored-noted-refused n at unread = alike.noted-refused image s table steps (lent_by lent words) events noted noted' kept fresh n at unread

    module _ (m : Model) (end : ℕ) (accepted : decode image ≡ read_got m end) (long : length table ≡ 9 * length m.rules) where
      pub stored-noted-unwell : well_formed m s ≡ false → (noted ≡ events) × (noted' ≡ events)
      stored-noted-unwell ill = alike.noted-unwell image s table steps (lent_by lent words) events noted noted' kept fresh m end accepted ill long

      pub stored-noted-misfit : well_formed m s ≡ true → store_fits m.types (lent_by lent words) ≡ false → (noted ≡ events) × (noted' ≡ events)
      stored-noted-misfit well bad = alike.noted-misfit image s table steps (lent_by lent words) events noted noted' kept fresh m end accepted well bad long

-- ---- the calls for C: any words for a state, well formed or not, each fitting its field or not, and any number of steps

module _ (image w : List ℕ) (steps : ℕ) where
  -- For an accepted image, handed the fresh table of the state in the words: the same answer, the same words of the state and of the events.
  pub told-alike : (m : Model) (end : ℕ) → decode image ≡ read_got m end → SameTold image w (fresh_table m.rules (state_of w)) steps
  told-alike m end accepted = alike.told-alike image w steps m end accepted

  -- Where a word does not fit, or the state is not well formed, any table of the right length does: 6 from both, with no position, and the words of state and table stay.
  pub told-unwell : (m : Model) (end : ℕ) → decode image ≡ read_got m end → length w ≡ 89 → (fits w && well_formed m (state_of w)) ≡ false
      → (table : List ℕ) → length table ≡ 9 * length m.rules → (run_in image w table steps ≡ told (answer ill_formed 0 0) w table) × SameTold image w table steps
  told-unwell m end accepted l ill table long = alike.told-unwell image w steps m end accepted l ill table long

  -- A refused image gets its number and its position from both, whatever table, and the words of state and table stay.
  pub told-refused : (n at : ℕ) → decode image ≡ read_refused n at → length w ≡ 89 → (table : List ℕ) → (run_in image w table steps ≡ told (answer n 0 at) w table) × SameTold image w table steps
  told-refused n at unread l table = alike.told-refused image w steps n at unread l table

  -- After an accepted opening, and any kept runs, refreshes, and changes of the words that are refreshed with their mark: the same as with whatever table is held, word for word.
  pub told-held : (table : List ℕ) → Held image w table → SameTold image w table steps
  told-held table held = alike.told-held image w steps table held

  -- ---- its answer by itself

  -- The number read off the answer is never 5 or 7, which "have no meaning here", nor 10, nor larger than 13;
  pub fresh-numbers : let n : ℕ = number_in (fresh_in image w steps).answered in (n ≡ 5 → ⊥) × (n ≡ 7 → ⊥) × (n ≡ 10 → ⊥) × (n < 14)
  fresh-numbers = lone.numbers image w steps

  -- and the count is no more than the steps asked.
  pub fresh-most : count_in (fresh_in image w steps).answered ≤ steps
  fresh-most = lone.most image w steps

  -- Refused by 1 to 4, 6 or 11 to 13, too large words among it: the words as they were, and nothing counted;
  pub run-fresh-leaves : length w ≡ 89 → let a : FreshTold = fresh_in image w steps in Beforehand (number_in a.answered) → FreshLeaves w a
  run-fresh-leaves l b = lone.run-leaves image w steps l b

  -- and nothing is noted: every lent word stays as it was.
  pub trace-fresh-leaves : (lent : List ℕ) → Beforehand (number_in (fresh_in image w steps).answered) → lay_events lent (fresh_events_in image w steps) ≡ lent
  trace-fresh-leaves lent b = lone.trace-leaves image w steps lent b

  -- If each word fits (a clock has 32 bits, the steps asked have 16), number, position, state and count are read back off the answer and the words,
  module _ (fit : fits w ≡ true) (clock : get_or w 0 0 ≤ largest) (few : steps ≤ 65535) where
    pub fresh-back : fresh_ran_in (fresh_in image w steps) ≡ fresh_of image (state_of w) steps
    fresh-back = lone.back image w steps fit clock few

    -- and demand 2 holds of them, from any well-formed state of an accepted image: the events are what the transitions from the state in the words handed in to the
    -- state in the words given back did, as many as counted; there are no others; and the number says why there are no more.
    pub fresh-follows : (m : Model) (end : ℕ) → decode image ≡ read_got m end → well_formed m (state_of w) ≡ true
        → let a : FreshRan = fresh_ran_in (fresh_in image w steps) in Follows m (alone (state_of w)) steps (fresh_events_in image w steps) (alone a.state) a.made a.number
    fresh-follows m end accepted well = lone.follows image w steps fit clock few m end accepted well

-- ---- the calls for C where a store may be lent: any word that says what is lent, and any words of the store

module _ (image w : List ℕ) (steps lent : ℕ) (store : List ℕ) where
  -- For an accepted image, handed the fresh table of the state in the words: the same answer, the same words of the state, of the store and of the events.
  pub told-lent-alike : (m : Model) (end : ℕ) → decode image ≡ read_got m end → SameLent image w (fresh_table m.rules (state_of w)) steps lent store
  told-lent-alike m end accepted = alike.lent_alike image w steps lent store m end accepted

  -- Where a word does not fit, or the state is not well formed, any table of the right length does: 6 from both, with no position, and the words of state, table and store
  -- stay.
  pub told-lent-unwell : (m : Model) (end : ℕ) → decode image ≡ read_got m end → length w ≡ 89 → (fits w && well_formed m (state_of w)) ≡ false
      → (table : List ℕ) → length table ≡ 9 * length m.rules
      → (run_lent_in image w table steps lent store ≡ told_with (told (answer ill_formed 0 0) w table) store) × SameLent image w table steps lent store
  told-lent-unwell m end accepted l ill table long = alike.lent-unwell image w steps lent store m end accepted l ill table long

  -- A store that is lent and does not fit, with a well-formed state, and any table of the right length: 15 from both, with no position, and all words stay.
  pub told-lent-misfit : (m : Model) (end : ℕ) → decode image ≡ read_got m end → length w ≡ 89 → fits w ≡ true → well_formed m (state_of w) ≡ true
      → store_fits m.types (lent_by lent store) ≡ false → (table : List ℕ) → length table ≡ 9 * length m.rules
      → (run_lent_in image w table steps lent store ≡ told_with (told (answer bad_store 0 0) w table) store) × SameLent image w table steps lent store
  told-lent-misfit m end accepted l fit well bad table long = alike.lent-misfit image w steps lent store m end accepted l fit well bad table long

  -- A refused image gets its number and its position from both, whatever table, and the words of state, table and store stay.
  pub told-lent-refused : (n at : ℕ) → decode image ≡ read_refused n at → length w ≡ 89 → (table : List ℕ)
      → (run_lent_in image w table steps lent store ≡ told_with (told (answer n 0 at) w table) store) × SameLent image w table steps lent store
  told-lent-refused n at unread l table = alike.lent-refused image w steps lent store n at unread l table

  -- After an accepted opening, and any kept runs, with any store lent, refreshes, and changes of the words that are refreshed with their mark: the same as with whatever
  -- table is held, word for word.
  pub told-lent-held : (table : List ℕ) → Held image w table → SameLent image w table steps lent store
  told-lent-held table held = alike.lent-held image w steps lent store table held

  -- ---- the answer of the run without a table by itself

  -- The number read off the answer is never 5, 7 or 10, nor larger than 15;
  pub fresh-lent-numbers : let n : ℕ = number_in (fresh_lent_in image w steps lent store).answer.answered in (n ≡ 5 → ⊥) × (n ≡ 7 → ⊥) × (n ≡ 10 → ⊥) × (n < 16)
  fresh-lent-numbers = lone.lent-numbers image w steps lent store

  -- and the count is no more than the steps asked.
  pub fresh-lent-most : count_in (fresh_lent_in image w steps lent store).answer.answered ≤ steps
  fresh-lent-most = lone.lent-most image w steps lent store

  -- Refused by 1 to 4, 6, 11 to 13 or 15, too large words among it: the words of state and store as they were, and nothing counted;
  pub run-fresh-lent-leaves : length w ≡ 89 → let a : WithStore FreshTold = fresh_lent_in image w steps lent store in Beforehand (number_in a.answer.answered)
      → FreshLeaves w a.answer × (a.store ≡ store)
  run-fresh-lent-leaves l b = (lone.lent-leaves image w steps lent store b l, lone.store-leaves image w steps lent store b)

  -- and nothing is noted: every word for the events stays as it was.
  pub trace-fresh-lent-leaves : (events : List ℕ) → Beforehand (number_in (fresh_lent_in image w steps lent store).answer.answered)
      → lay_events events (fresh_lent_events_in image w steps lent store) ≡ events
  trace-fresh-lent-leaves events b = lone.lent-trace-leaves image w steps lent store b events

  -- If each word fits, number, position, state and count are read back off the answer and the words,
  module _ (fit : fits w ≡ true) (clock : get_or w 0 0 ≤ largest) (few : steps ≤ 65535) where
    pub fresh-lent-back : fresh_ran_in (fresh_lent_in image w steps lent store).answer ≡ (fresh_lent image (state_of w) steps lent store).answer
    fresh-lent-back = lone.lent_back image w steps lent store fit clock few

    -- and demand 2 holds of them, with any store that fits: the transitions start with the store in the words lent and end with the store in the words given back.
    pub fresh-lent-follows : (m : Model) (end : ℕ) → decode image ≡ read_got m end → well_formed m (state_of w) ≡ true → store_fits m.types (lent_by lent store) ≡ true
        → let a : WithStore FreshTold = fresh_lent_in image w steps lent store in let r : FreshRan = fresh_ran_in a.answer in
        Follows m (moving (state_of w) (store_of (lent_by lent store))) steps (fresh_lent_events_in image w steps lent store)
        (moving r.state (store_of (lent_by lent a.store))) r.made r.number
    fresh-lent-follows m end accepted well fits' = lending.fresh-lent-follows image m end accepted w steps lent store fit clock few well fits'
