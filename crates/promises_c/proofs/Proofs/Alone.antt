-- A run without a table over words: its answer taken apart, what a refused one leaves, and its transitions.
use Rattle.std.specs.Prelude.{◌≡◌, refl, true, false, List, [], ℕ, ◌≤◌, ◌<◌, length, get_or}
use Rattle.std.proofs.Math.Path.{ap}
use Rattle.std.proofs.Common.{◌∙◌, ⊎_elim, arith}
use Rattle.std.proofs.Math.Option.{Option, none}
use Rattle.meaning.specs.declared.State.{State}
use Rattle.meaning.specs.Model.{Model}
use Rattle.meaning.specs.State.{well_formed}
use Rattle.meaning.specs.Read.{Read, read_refused, read_got}
use Rattle.meaning.specs.Image.{decode}
use Rattle.meaning.specs.Match.{fresh_table}
use Rattle.meaning.specs.Step.{largest}
use Rattle.meaning.specs.Store.{lent_by, store_of}
use Rattle.meaning.specs.Run.{Run, run_from}
use Rattle.meaning.specs.Calls.{place_of, WithStore}
use Rattle.meaning.specs.Fresh.{Moving, moving, fresh_trace_lent, FreshRan, fresh_lent, fresh_of}
use Rattle.jirvuntsag.specs.Words.{state_of, words_of, fits}
use Rattle.jirvuntsag.specs.Told.{unfit_by}
use Rattle.jirvuntsag.specs.Fresh.{FreshTold, fresh_in, fresh_events_in}
use Rattle.jirvuntsag.specs.Lent.{fresh_lent_in, fresh_lent_events_in}
use Rattle.promises.specs.Words.{Machine, alone, fresh_ran_lent}
use Rattle.promises.specs.Published.{Follows}
use Rattle.promises.specs.Sentences.{Beforehand}
use Rattle.promises.proofs.Fresh.{fresh-never, fresh-published, fresh-lent-refused}
use Rattle.promises.proofs.Proofs.Numbers.{refused-unread, unread-range}
use Rattle.promises.proofs.Proofs.Outcomes.{freshly}
use Rattle.promises.proofs.Proofs.Chains.{run-keeps}
use Rattle.promises.proofs.Proofs.Machines.{Sound, StoreFit, fit, known-sound, lent-fit}
use Rattle.promises.proofs.Proofs.Afresh.{run-as-kept, answers-as-kept, both-refuse, left-refused, call-refused, lent_never}
use Rattle.promises.proofs.Proofs.Lending.{Accepts, Freed, put-off, moves, freed}
use Rattle.promises_c.specs.Handing.{number_in, count_in, Reads, fresh_ran_in, FreshLeaves, lay_events}
use Rattle.promises_c.proofs.Proofs.Back.{state-back, fit-back, state-fits}
use Rattle.promises_c.proofs.Proofs.Calling.{number_of, none_of, answer-reads, unfit-reads, by_fits, most-by}
use Rattle.promises_c.proofs.Proofs.Alike.{free_by, free_events, free-told, free-noted, lent-free, lent-free-noted, fit-free-store, unfit-free-store}
use Rattle.promises_c.proofs.Proofs.Alike.{fit-fresh, unfit-fresh, fit-fresh-events, unfit-fresh-events}

-- ---- over states, where words are lent or none

module _ (image : List ℕ) (s : State) (steps : ℕ) (lent : Option (List ℕ)) where
  -- no more steps are made than asked, since the kept run makes no more
  made-few : (fresh_ran_lent image s steps lent).made ≤ steps
  made-few = by (decode image) refl
    where
      by : (r : Read Model) → decode image ≡ r → (fresh_ran_lent image s steps lent).made ≤ steps
      by (read_refused n at) d = omega (arith, ap (λ (x : FreshRan). x.made) (both-refuse image s steps lent n at d []).1)
      by (read_got m end) d =
          omega (arith, ap (λ (x : FreshRan). x.made) (answers-as-kept image s steps lent m end d), most-by image s (fresh_table m.rules s) steps lent)

  small : (fresh_ran_lent image s steps lent).number < 16
  small = (lent_never image s lent steps).3

  -- the state that is left is one of the machine, if the state handed in is
  left-machine : Machine s → Machine (fresh_ran_lent image s steps lent).state
  left-machine k = by (freed image s steps lent)
    where
      run-machine : (m : Model) → Accepts image s steps lent m → let g : Moving = moving s (store_of lent) in Machine (run_from m steps (freshly m g)).left.state
      run-machine m a =
          (run-keeps m (λ x table. Sound m x) (StoreFit m) (known-sound image m a.end a.reads) steps (freshly m (moving s (store_of lent)))
          (record { well = a.well; machine = k }, lent-fit m (fit image m a.end a.reads) lent a.fits)).0.machine

      by : Freed image s steps lent → Machine (fresh_trace_lent image s steps lent).left.state
      by (put-off n q) = rw q k
      by (moves m a q) = rw (q, (run-as-kept m steps (moving s (store_of lent))).same_state) (run-machine m a)

-- ---- over words

-- a word too large for its field: 1 to 4, 11 to 13, or 6
pub unfit-number : (image : List ℕ) → let n : ℕ = unfit_by (decode image) in (n ≡ 5 → ⊥) × (n ≡ 7 → ⊥) × (n ≡ 10 → ⊥) × (n < 14)
unfit-number image = by (decode image) refl
  where
    by : (r : Read Model) → decode image ≡ r → let n : ℕ = unfit_by r in (n ≡ 5 → ⊥) × (n ≡ 7 → ⊥) × (n ≡ 10 → ⊥) × (n < 14)
    by (read_refused n at) d =
        ⊎_elim
        (λ (l : n < 5). (λ e. omega arith, λ e. omega arith, λ e. omega arith, omega arith))
        (λ (l : (10 < n) × (n < 14)). (λ e. omega (arith, l.0), λ e. omega (arith, l.0), λ e. omega (arith, l.0), l.1))
        (unread-range image (refused-unread image n at d)).1
    by (read_got m end) d = (λ e. omega arith, λ e. omega arith, λ e. omega arith, omega arith)

module _ (image w : List ℕ) (steps : ℕ) (lent : Option (List ℕ)) where
  abbrev run : FreshRan
  run = fresh_ran_lent image (state_of w) steps lent

  fit-number : fits w ≡ true → number_in (free_by image w steps lent).answered ≡ run.number
  fit-number f =
      ap (λ (x : FreshTold). number_in x.answered) (fit-fresh image w steps lent f) ∙ number_of run.number run.made run.position (small image (state_of w) steps lent)

  -- steps asked have 16 bits, and so have those made
  reads-by : fits w ≡ true → steps ≤ 65535 → Reads (free_by image w steps lent).answered run.number run.made run.position
  reads-by f few =
      rw (fit-fresh image w steps lent f)
      (answer-reads run.number run.made run.position (omega (arith, small image (state_of w) steps lent)) (omega (arith, made-few image (state_of w) steps lent)))

  pub large-by : fits w ≡ false → Reads (free_by image w steps lent).answered (unfit_by (decode image)) 0 (place_of (decode image))
  large-by f = rw (unfit-fresh image w steps lent f) (unfit-reads (decode image) (unfit-number image).3)

  most-of : count_in (free_by image w steps lent).answered ≤ steps
  most-of =
      by_fits w
      (λ f. rw (fit-fresh image w steps lent f) (omega (arith, small image (state_of w) steps lent, made-few image (state_of w) steps lent)))
      (λ f. omega (arith, (large-by f).count_read))

  -- ---- what a refused run leaves

  module _ (b : Beforehand (number_in (free_by image w steps lent).answered)) where
    fit-before : fits w ≡ true → Beforehand run.number
    fit-before f = rw (fit-number f) at b

    fit_refused : fits w ≡ true → run ≡ record { number = run.number; position = run.position; state = state_of w; made = 0 }
    fit_refused f = call-refused image (state_of w) lent steps (fit-before f)

    left_by : length w ≡ 89 → FreshLeaves w (free_by image w steps lent)
    left_by l =
        by_fits w
        (λ f.
        record {
          words_stay = ap (λ (x : FreshTold). x.words) (fit-fresh image w steps lent f) ∙ ap (λ (x : FreshRan). words_of x.state) (fit_refused f) ∙ fit-back w l f;
          none_counted =
              ap (λ (x : FreshTold). count_in x.answered) (fit-fresh image w steps lent f)
              ∙ none_of run.number run.made run.position (small image (state_of w) steps lent) (ap (λ (x : FreshRan). x.made) (fit_refused f));
        })
        (λ f. record { words_stay = ap (λ (x : FreshTold). x.words) (unfit-fresh image w steps lent f); none_counted = (large-by f).count_read })

    untold : free_events image w steps lent ≡ []
    untold =
        by_fits w
        (λ f. fit-fresh-events image w steps lent f ∙ ap (λ (r : Run Moving). r.events) (left-refused image (state_of w) lent steps (fit-before f)))
        (λ f. unfit-fresh-events image w steps lent f)

  -- ---- words that fit

  module _ (f : fits w ≡ true) (c : get_or w 0 0 ≤ largest) where
    words-hold : state_of (free_by image w steps lent).words ≡ run.state
    words-hold =
        ap (λ (x : FreshTold). state_of x.words) (fit-fresh image w steps lent f) ∙ state-back run.state (left-machine image (state_of w) steps lent (state-fits w f c))

    back_by : steps ≤ 65535 → fresh_ran_in (free_by image w steps lent) ≡ run
    back_by few = let read = reads-by f few in rw (read.number_read, read.count_read, read.position_read, words-hold) refl

-- ---- with nothing lent

module _ (image w : List ℕ) (steps : ℕ) where
  pub fit-reads : fits w ≡ true → steps ≤ 65535 → let r = fresh_of image (state_of w) steps in Reads (fresh_in image w steps).answered r.number r.made r.position
  unfolding fresh_of
  fit-reads f few = rw (free-told image w steps) (reads-by image w steps none f few)

  pub large-reads : fits w ≡ false → Reads (fresh_in image w steps).answered (unfit_by (decode image)) 0 (place_of (decode image))
  large-reads f = rw (free-told image w steps) (large-by image w steps none f)

  pub numbers : let n : ℕ = number_in (fresh_in image w steps).answered in (n ≡ 5 → ⊥) × (n ≡ 7 → ⊥) × (n ≡ 10 → ⊥) × (n < 14)
  unfolding fresh_of
  numbers =
      rw (free-told image w steps)
      (by_fits w (λ f. rw (fit-number image w steps none f) (fresh-never image (state_of w) steps)) (λ f. rw (large-by image w steps none f).number_read (unfit-number image)))

  pub most : count_in (fresh_in image w steps).answered ≤ steps
  most = rw (free-told image w steps) (most-of image w steps none)

  pub run-leaves : length w ≡ 89 → let a : FreshTold = fresh_in image w steps in Beforehand (number_in a.answered) → FreshLeaves w a
  run-leaves l b = let e = free-told image w steps in rw e (left_by image w steps none (rw e at b) l)

  pub trace-leaves : (lent : List ℕ) → Beforehand (number_in (fresh_in image w steps).answered) → lay_events lent (fresh_events_in image w steps) ≡ lent
  trace-leaves lent b = ap (lay_events lent) (free-noted image w steps ∙ untold image w steps none (rw (free-told image w steps) at b))

  module _ (f : fits w ≡ true) (c : get_or w 0 0 ≤ largest) (few : steps ≤ 65535) where
    pub back : fresh_ran_in (fresh_in image w steps) ≡ fresh_of image (state_of w) steps
    unfolding fresh_of
    back = rw (free-told image w steps) (back_by image w steps none f c few)

    pub follows : (m : Model) (end : ℕ) → decode image ≡ read_got m end → well_formed m (state_of w) ≡ true
        → let a : FreshRan = fresh_ran_in (fresh_in image w steps) in Follows m (alone (state_of w)) steps (fresh_events_in image w steps) (alone a.state) a.made a.number
    unfolding fresh_of
    follows m end d well =
        let read = reads-by image w steps none f few in
        rw (free-told image w steps, free-noted image w steps, read.number_read, read.count_read, words-hold image w steps none f c, fit-fresh-events image w steps none f)
        (fresh-published image (state_of w) steps m end d well)

-- ---- with a store that may be lent

module _ (image w : List ℕ) (steps lent : ℕ) (store : List ℕ) where
  pub lent_reads : fits w ≡ true → steps ≤ 65535
      → let r = (fresh_lent image (state_of w) steps lent store).answer in Reads (fresh_lent_in image w steps lent store).answer.answered r.number r.made r.position
  unfolding fresh_lent
  lent_reads f few = rw (lent-free image w steps lent store) (reads-by image w steps (lent_by lent store) f few)

  pub lent-large : fits w ≡ false → Reads (fresh_lent_in image w steps lent store).answer.answered (unfit_by (decode image)) 0 (place_of (decode image))
  lent-large f = rw (lent-free image w steps lent store) (large-by image w steps (lent_by lent store) f)

  pub lent-numbers : let n : ℕ = number_in (fresh_lent_in image w steps lent store).answer.answered in (n ≡ 5 → ⊥) × (n ≡ 7 → ⊥) × (n ≡ 10 → ⊥) × (n < 16)
  lent-numbers =
      let l : Option (List ℕ) = lent_by lent store in
      let u = unfit-number image in
      rw (lent-free image w steps lent store)
      (by_fits w
      (λ f. rw (fit-number image w steps l f) (lent_never image (state_of w) l steps))
      (λ f. rw (large-by image w steps l f).number_read (u.0, u.1, u.2, omega (arith, u.3))))

  pub lent-most : count_in (fresh_lent_in image w steps lent store).answer.answered ≤ steps
  lent-most = rw (lent-free image w steps lent store) (most-of image w steps (lent_by lent store))

  module _ (b : Beforehand (number_in (fresh_lent_in image w steps lent store).answer.answered)) where
    behind : Beforehand (number_in (free_by image w steps (lent_by lent store)).answered)
    behind = rw (lent-free image w steps lent store) at b

    pub lent-leaves : length w ≡ 89 → FreshLeaves w (fresh_lent_in image w steps lent store).answer
    lent-leaves l = rw (lent-free image w steps lent store) (left_by image w steps (lent_by lent store) behind l)

    pub store-leaves : (fresh_lent_in image w steps lent store).store ≡ store
    unfolding fresh_lent
    store-leaves =
        by_fits w
        (λ f.
        fit-free-store image w steps lent store f
        ∙ ap (λ (x : WithStore FreshRan). x.store) (fresh-lent-refused image (state_of w) steps lent store (fit-before image w steps (lent_by lent store) behind f)))
        (λ f. unfit-free-store image w steps lent store f)

    pub lent-trace-leaves : (noted : List ℕ) → lay_events noted (fresh_lent_events_in image w steps lent store) ≡ noted
    lent-trace-leaves noted = ap (lay_events noted) (lent-free-noted image w steps lent store ∙ untold image w steps (lent_by lent store) behind)

  module _ (f : fits w ≡ true) (c : get_or w 0 0 ≤ largest) (few : steps ≤ 65535) where
    pub lent_back : fresh_ran_in (fresh_lent_in image w steps lent store).answer ≡ (fresh_lent image (state_of w) steps lent store).answer
    unfolding fresh_lent
    lent_back = rw (lent-free image w steps lent store) (back_by image w steps (lent_by lent store) f c few)
