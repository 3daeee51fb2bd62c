-- A run without a table and a kept run that are alike over states are so over what their calls give back, and over the words that C holds.
use Rattle.std.specs.Prelude.{if◌then◌else◌, ◌≡◌, true, false, ◌&&◌, List, [], ℕ, ◌*◌, length}
use Rattle.std.proofs.Math.Path.{refl, sym, ap}
use Rattle.std.proofs.Common.{ap₂, ◌∙◌}
use Rattle.std.proofs.Math.Option.{Option, none}
use Rattle.meaning.specs.declared.State.{State}
use Rattle.meaning.specs.Numbers.{ill_formed, bad_store}
use Rattle.meaning.specs.Model.{Model}
use Rattle.meaning.specs.State.{well_formed}
use Rattle.meaning.specs.Read.{Read, read_refused, read_got}
use Rattle.meaning.specs.Image.{decode}
use Rattle.meaning.specs.Match.{fresh_table}
use Rattle.meaning.specs.Store.{lent_by, store_fits, store_left}
use Rattle.meaning.specs.Run.{Going, going, Timed, Run, ends}
use Rattle.meaning.specs.Calls.{accepted, place_of, trace_lent, Ran, WithStore, ran_by, run_lent, run_of}
use Rattle.meaning.specs.Fresh.{Moving, fresh_trace_lent, FreshRan, fresh_lent, fresh_of}
use Rattle.step_note.specs.Events.{inscribed}
use Rattle.call_run.specs.declared.RunDone.{RunDone}
use Rattle.call_run.specs.Answers.{ran_back, with_store}
use Rattle.fresh_call.specs.declared.FreshDone.{FreshDone}
use Rattle.fresh_call.specs.Answers.{fresh_back}
use Rattle.fresh_call.specs.Answers.{with_store as fresh_with}
use Rattle.jirvuntsag.specs.Words.{state_of, fits}
use Rattle.jirvuntsag.specs.Told.{answer, unfit_by, unfit_answer, Told, told, told_run, run_in}
use Rattle.jirvuntsag.specs.Fresh.{FreshTold, fresh_told, told_fresh, fresh_in, fresh_events_in}
use Rattle.jirvuntsag.specs.Lent.{told_with, run_lent_in, fresh_lent_in, fresh_lent_events_in}
use Rattle.laws.specs.MatchLaws.{fresh-length}
use Rattle.promises.specs.Words.{Reached, alone, AsKept, ran_lent, fresh_ran_lent}
use Rattle.promises.proofs.Numbers.{accepted-taken}
use Rattle.promises.proofs.Keeping.{reached-fresh}
use Rattle.promises.proofs.Proofs.Numbers.{taken-accepted, refused-accepted}
use Rattle.promises.proofs.Proofs.Afresh.{call-as-kept, reached-as-kept, kept-refuses, fresh-refuses}
use Rattle.promises_c.specs.Handing.{Held, SameDone, SameTold, SameLent}
use Rattle.promises_c.proofs.Proofs.Back.{fit-back}
use Rattle.promises_c.proofs.Proofs.Calling.{same_place, told_by, events_by, by_fits, run-told, run-noted, lent-told, lent-noted, fit-store, unfit-store}
use Rattle.promises_c.proofs.Proofs.Calling.{fit-run, unfit-run, fit-events, unfit-events, six-by, held-stands}

-- ---- the runs over states that are alike, where words are lent or none

-- two runs that end alike before any step
ends-alike : (n : ℕ) (s : State) (table : List ℕ) {kept : Run Going} {fresh : Run Moving} → kept ≡ ends n (going s table none) → fresh ≡ ends n (alone s) → AsKept kept fresh
ends-alike n s table k f = rw (k, f) (record { same_number = refl; same_state = refl; same_store = refl; same_events = refl })

module _ (image : List ℕ) (s : State) (table : List ℕ) (steps : ℕ) (lent : Option (List ℕ)) where
  abbrev Kept : Type 0
  Kept = AsKept (trace_lent image s table steps lent) (fresh_trace_lent image s steps lent)

  refused-kept : (n at : ℕ) → decode image ≡ read_refused n at → Kept
  refused-kept n at d = ends-alike n s table (kept-refuses image s steps lent n at d table) (fresh-refuses image s steps lent n at d)

  module _ (m : Model) (end : ℕ) (d : decode image ≡ read_got m end) where
    table_kept : table ≡ fresh_table m.rules s → Kept
    table_kept e = rw e (call-as-kept image s steps lent m end d)

    -- a state that is not well formed
    module _ (ill : well_formed m s ≡ false) where
      kept-six : length table ≡ 9 * length m.rules → trace_lent image s table steps lent ≡ ends ill_formed (going s table none)
      unfolding trace_lent
      kept-six l = rw (taken-accepted image table (accepted-taken image table m end d l), ill) refl

      fresh-six : fresh_trace_lent image s steps lent ≡ ends ill_formed (alone s)
      unfolding fresh_trace_lent
      fresh-six = rw (d, ill) refl

    -- a store that does not fit
    module _ (well : well_formed m s ≡ true) (bad : store_fits m.types lent ≡ false) where
      kept-fifteen : length table ≡ 9 * length m.rules → trace_lent image s table steps lent ≡ ends bad_store (going s table none)
      unfolding trace_lent
      kept-fifteen l = rw (taken-accepted image table (accepted-taken image table m end d l), well, bad) refl

      fresh-fifteen : fresh_trace_lent image s steps lent ≡ ends bad_store (alone s)
      unfolding fresh_trace_lent
      fresh-fifteen = rw (d, well, bad) refl

-- ---- what the calls in Rattle give back

module _ (image : List ℕ) (s : State) (table : List ℕ) (steps : ℕ) (lent : Option (List ℕ)) where
  module _ (r : RunDone) (left : List ℕ) (r' : FreshDone) (kept : ran_back r left ≡ ran_lent image s table steps lent) (fresh : fresh_back r' ≡ fresh_ran_lent image s steps lent) where
    done-by : Kept image s table steps lent → SameDone r r'
    done-by a =
        record {
          same_number = ap (λ (x : FreshRan). x.number) fresh ∙ a.same_number ∙ sym (ap (λ (x : Ran). x.number) kept);
          same_position = ap (λ (x : FreshRan). x.position) fresh ∙ sym (same_place image table) ∙ sym (ap (λ (x : Ran). x.position) kept);
          same_state = ap (λ (x : FreshRan). x.state) fresh ∙ a.same_state ∙ sym (ap (λ (x : Ran). x.state) kept);
          same_count = ap (λ (x : FreshRan). x.made) fresh ∙ ap length a.same_events ∙ sym (ap (λ (x : Ran). x.made) kept);
        }

    -- the number of a run that ends before any step
    number_by : (n : ℕ) → trace_lent image s table steps lent ≡ ends n (going s table none) → r.number ≡ n
    number_by n e = ap (λ (x : Ran). x.number) kept ∙ ap (λ (x : Run Going). x.number) e

    -- and its position
    position-by : (at : ℕ) → place_of (decode image) ≡ at → r.position ≡ at
    position-by at e = ap (λ (x : Ran). x.position) kept ∙ same_place image table ∙ e

    unwell-by : (m : Model) (end : ℕ) → decode image ≡ read_got m end → well_formed m s ≡ false → length table ≡ 9 * length m.rules
        → (r.number ≡ ill_formed) × (r.position ≡ 0) × SameDone r r'
    unwell-by m end d ill l =
        let k = kept-six image s table steps lent m end d ill l in
        (number_by ill_formed k, position-by 0 (ap place_of d), done-by (ends-alike ill_formed s table k (fresh-six image s table steps lent m end d ill)))

    refused-by : (n at : ℕ) → decode image ≡ read_refused n at → (r.number ≡ n) × (r.position ≡ at) × SameDone r r'
    refused-by n at d = (number_by n (kept-refuses image s steps lent n at d table), position-by at (ap place_of d), done-by (refused-kept image s table steps lent n at d))

  module _ (events noted noted' : List ℕ) (kept : noted ≡ inscribed events 0 (trace_lent image s table steps lent).events)
      (fresh : noted' ≡ inscribed events 0 (fresh_trace_lent image s steps lent).events) where
    noted-by : Kept image s table steps lent → noted' ≡ noted
    noted-by a = fresh ∙ ap (inscribed events 0) a.same_events ∙ sym kept

    none-by : (n : ℕ) → trace_lent image s table steps lent ≡ ends n (going s table none) → fresh_trace_lent image s steps lent ≡ ends n (alone s)
        → (noted ≡ events) × (noted' ≡ events)
    unfolding inscribed
    none-by n k f = (kept ∙ ap (λ (x : Run Going). inscribed events 0 x.events) k, fresh ∙ ap (λ (x : Run Moving). inscribed events 0 x.events) f)

-- with nothing lent
module _ (image : List ℕ) (s : State) (table : List ℕ) (steps : ℕ) where
  module _ (r : RunDone) (left : List ℕ) (r' : FreshDone) (kept : ran_back r left ≡ run_of image s table steps) (fresh : fresh_back r' ≡ fresh_of image s steps) where
    pub done-alike : (m : Model) (end : ℕ) → decode image ≡ read_got m end → table ≡ fresh_table m.rules s → SameDone r r'
    unfolding run_of fresh_of
    done-alike m end d e = done-by image s table steps none r left r' kept fresh (table_kept image s table steps none m end d e)

    pub done-unwell : (m : Model) (end : ℕ) → decode image ≡ read_got m end → well_formed m s ≡ false → length table ≡ 9 * length m.rules
        → (r.number ≡ ill_formed) × (r.position ≡ 0) × SameDone r r'
    unfolding run_of fresh_of
    done-unwell m end d ill l = unwell-by image s table steps none r left r' kept fresh m end d ill l

    pub done_refused : (n at : ℕ) → decode image ≡ read_refused n at → (r.number ≡ n) × (r.position ≡ at) × SameDone r r'
    unfolding run_of fresh_of
    done_refused n at d = refused-by image s table steps none r left r' kept fresh n at d

    pub done-reached : Reached image s table → SameDone r r'
    unfolding run_of fresh_of
    done-reached h = done-by image s table steps none r left r' kept fresh (reached-as-kept h steps none)

-- with a store that may be lent
module _ (image : List ℕ) (s : State) (table : List ℕ) (steps lent : ℕ) (words : List ℕ) where
  module _ (r : RunDone) (left stored : List ℕ) (r' : FreshDone) (stored' : List ℕ)
      (kept : with_store r left stored ≡ run_lent image s table steps lent words) (fresh : fresh_with r' stored' ≡ fresh_lent image s steps lent words) where
    both : Kept image s table steps (lent_by lent words) → SameDone r r' × (stored' ≡ stored)
    unfolding run_lent fresh_lent
    both a = (
      done-by image s table steps (lent_by lent words) r left r' (ap (λ (x : WithStore Ran). x.answer) kept) (ap (λ (x : WithStore FreshRan). x.answer) fresh) a,
      ap (λ (x : WithStore FreshRan). x.store) fresh ∙ ap (store_left words) a.same_store ∙ sym (ap (λ (x : WithStore Ran). x.store) kept),
    )

    -- two runs that end before any step leave the words
    ended : (n : ℕ) → trace_lent image s table steps (lent_by lent words) ≡ ends n (going s table none) → fresh_trace_lent image s steps (lent_by lent words) ≡ ends n (alone s)
        → (r.number ≡ n) × (stored ≡ words) × (stored' ≡ words) × SameDone r r'
    unfolding run_lent fresh_lent store_left
    ended n k f = (
      number_by image s table steps (lent_by lent words) r left r' (ap (λ (x : WithStore Ran). x.answer) kept) (ap (λ (x : WithStore FreshRan). x.answer) fresh) n k,
      ap (λ (x : WithStore Ran). x.store) kept ∙ ap (λ (x : Run Going). store_left words x.left.store) k,
      ap (λ (x : WithStore FreshRan). x.store) fresh ∙ ap (λ (x : Run Moving). store_left words x.left.store) f,
      (both (ends-alike n s table k f)).0,
    )

    pub stored-alike : (m : Model) (end : ℕ) → decode image ≡ read_got m end → table ≡ fresh_table m.rules s → SameDone r r' × (stored' ≡ stored)
    stored-alike m end d e = both (table_kept image s table steps (lent_by lent words) m end d e)

    pub stored-unwell : (m : Model) (end : ℕ) → decode image ≡ read_got m end → well_formed m s ≡ false → length table ≡ 9 * length m.rules
        → (r.number ≡ ill_formed) × (stored ≡ words) × (stored' ≡ words) × SameDone r r'
    stored-unwell m end d ill l =
        ended ill_formed (kept-six image s table steps (lent_by lent words) m end d ill l) (fresh-six image s table steps (lent_by lent words) m end d ill)

    pub stored-misfit : (m : Model) (end : ℕ) → decode image ≡ read_got m end → well_formed m s ≡ true → store_fits m.types (lent_by lent words) ≡ false
        → length table ≡ 9 * length m.rules → (r.number ≡ bad_store) × (stored ≡ words) × (stored' ≡ words) × SameDone r r'
    stored-misfit m end d well bad l =
        let o : Option (List ℕ) = lent_by lent words in
        ended bad_store (kept-fifteen image s table steps o m end d well bad l) (fresh-fifteen image s table steps o m end d well bad)

    pub stored_refused : (n at : ℕ) → decode image ≡ read_refused n at → (r.number ≡ n) × (stored ≡ words) × (stored' ≡ words) × SameDone r r'
    stored_refused n at d = ended n (kept-refuses image s steps (lent_by lent words) n at d table) (fresh-refuses image s steps (lent_by lent words) n at d)

    pub stored-reached : Reached image s table → SameDone r r' × (stored' ≡ stored)
    stored-reached h = both (reached-as-kept h steps (lent_by lent words))

-- the events, where words are lent or none
module _ (image : List ℕ) (s : State) (table : List ℕ) (steps : ℕ) (lent : Option (List ℕ)) (events noted noted' : List ℕ)
    (kept : noted ≡ inscribed events 0 (trace_lent image s table steps lent).events) (fresh : noted' ≡ inscribed events 0 (fresh_trace_lent image s steps lent).events) where
  pub noted-alike : (m : Model) (end : ℕ) → decode image ≡ read_got m end → table ≡ fresh_table m.rules s → noted' ≡ noted
  noted-alike m end d e = noted-by image s table steps lent events noted noted' kept fresh (table_kept image s table steps lent m end d e)

  pub noted-unwell : (m : Model) (end : ℕ) → decode image ≡ read_got m end → well_formed m s ≡ false → length table ≡ 9 * length m.rules → (noted ≡ events) × (noted' ≡ events)
  noted-unwell m end d ill l =
      none-by image s table steps lent events noted noted' kept fresh ill_formed (kept-six image s table steps lent m end d ill l) (fresh-six image s table steps lent m end d ill)

  pub noted-misfit : (m : Model) (end : ℕ) → decode image ≡ read_got m end → well_formed m s ≡ true → store_fits m.types lent ≡ false → length table ≡ 9 * length m.rules
      → (noted ≡ events) × (noted' ≡ events)
  noted-misfit m end d well bad l =
      none-by image s table steps lent events noted noted' kept fresh bad_store (kept-fifteen image s table steps lent m end d well bad l) (fresh-fifteen image s table steps lent m end d well bad)

  pub noted-refused : (n at : ℕ) → decode image ≡ read_refused n at → (noted ≡ events) × (noted' ≡ events)
  noted-refused n at d = none-by image s table steps lent events noted noted' kept fresh n (kept-refuses image s steps lent n at d table) (fresh-refuses image s steps lent n at d)

  pub noted-reached : Reached image s table → noted' ≡ noted
  noted-reached h = noted-by image s table steps lent events noted noted' kept fresh (reached-as-kept h steps lent)

-- ---- what the calls for C leave: a run without a table, where words are lent or none

unfoldable pub free_by : List ℕ → List ℕ → ℕ → Option (List ℕ) → FreshTold
free_by image w steps lent = if fits w then told_fresh (fresh_ran_lent image (state_of w) steps lent) else fresh_told (unfit_answer (decode image)) w

unfoldable pub free_events : List ℕ → List ℕ → ℕ → Option (List ℕ) → List Timed
free_events image w steps lent = if fits w then (fresh_trace_lent image (state_of w) steps lent).events else []

module _ (image w : List ℕ) (steps : ℕ) where
  -- the calls are such runs
  pub free-told : fresh_in image w steps ≡ free_by image w steps none
  unfolding fresh_in fresh_of free_by
  free-told = refl

  pub free-noted : fresh_events_in image w steps ≡ free_events image w steps none
  unfolding fresh_events_in free_events
  free-noted = refl

  module _ (lent : ℕ) (store : List ℕ) where
    pub lent-free : (fresh_lent_in image w steps lent store).answer ≡ free_by image w steps (lent_by lent store)
    unfolding fresh_lent_in fresh_lent free_by
    lent-free = by_fits w (λ f. rw f refl) (λ f. rw f refl)

    pub lent-free-noted : fresh_lent_events_in image w steps lent store ≡ free_events image w steps (lent_by lent store)
    unfolding fresh_lent_events_in free_events
    lent-free-noted = refl

    -- and leave the store so
    pub fit-free-store : fits w ≡ true → (fresh_lent_in image w steps lent store).store ≡ (fresh_lent image (state_of w) steps lent store).store
    unfolding fresh_lent_in
    fit-free-store f = rw f refl

    pub unfit-free-store : fits w ≡ false → (fresh_lent_in image w steps lent store).store ≡ store
    unfolding fresh_lent_in
    unfit-free-store f = rw f refl

  module _ (lent : Option (List ℕ)) where
    pub fit-fresh : fits w ≡ true → free_by image w steps lent ≡ told_fresh (fresh_ran_lent image (state_of w) steps lent)
    unfolding free_by
    fit-fresh f = rw f refl

    pub unfit-fresh : fits w ≡ false → free_by image w steps lent ≡ fresh_told (unfit_answer (decode image)) w
    unfolding free_by
    unfit-fresh f = rw f refl

    pub fit-fresh-events : fits w ≡ true → free_events image w steps lent ≡ (fresh_trace_lent image (state_of w) steps lent).events
    unfolding free_events
    fit-fresh-events f = rw f refl

    pub unfit-fresh-events : fits w ≡ false → free_events image w steps lent ≡ []
    unfolding free_events
    unfit-fresh-events f = rw f refl

-- both runs are alike
record SameBy (image w table : List ℕ) (steps : ℕ) (lent : Option (List ℕ)) : Type 0 where
  by_answer : (free_by image w steps lent).answered ≡ (told_by image w table steps lent).answered
  by_words : (free_by image w steps lent).words ≡ (told_by image w table steps lent).words
  by_events : free_events image w steps lent ≡ events_by image w table steps lent

module _ (image w : List ℕ) (steps : ℕ) (lent : Option (List ℕ)) (table : List ℕ) where
  fit-told : fits w ≡ true → Kept image (state_of w) table steps lent → SameBy image w table steps lent
  fit-told f a =
      let k = fit-run image w table steps lent f in
      let n = fit-fresh image w steps lent f in
      record {
        by_answer = rw (k, n, a.same_number, a.same_events, same_place image table) refl;
        by_words = rw (k, n, a.same_state) refl;
        by_events = fit-fresh-events image w steps lent f ∙ a.same_events ∙ sym (fit-events image w table steps lent f);
      }

  unfit-told : fits w ≡ false → unfit_by (decode image) ≡ unfit_by (accepted image table) → SameBy image w table steps lent
  unfit-told f e =
      let k = unfit-run image w table steps lent f in
      let n = unfit-fresh image w steps lent f in
      record {
        by_answer = rw (k, n) (ap₂ (λ (n p : ℕ). answer n 0 p) e (sym (same_place image table)));
        by_words = rw (k, n) refl;
        by_events = unfit-fresh-events image w steps lent f ∙ sym (unfit-events image w table steps lent f);
      }

  told-by : Kept image (state_of w) table steps lent → unfit_by (decode image) ≡ unfit_by (accepted image table) → SameBy image w table steps lent
  told-by a e = by_fits w (λ f. fit-told f a) (λ f. unfit-told f e)

  -- a kept run that ends before any step leaves the words
  ends-told : (n at : ℕ) → place_of (decode image) ≡ at → length w ≡ 89 → fits w ≡ true → trace_lent image (state_of w) table steps lent ≡ ends n (going (state_of w) table none)
      → told_by image w table steps lent ≡ told (answer n 0 at) w table
  ends-told n at p l f e =
      fit-run image w table steps lent f
      ∙ ap₂ (λ (at : ℕ) (x : Run Going). told_run (ran_by at x)) (same_place image table ∙ p) e
      ∙ ap (λ (x : List ℕ). told (answer n 0 at) x table) (fit-back w l f)

  -- ---- by what the image is

  module _ (n at : ℕ) (d : decode image ≡ read_refused n at) where
    refused-unfit : unfit_by (decode image) ≡ unfit_by (accepted image table)
    refused-unfit = rw (d, refused-accepted image table n at d) refl

    refused-same : SameBy image w table steps lent
    refused-same = told-by (refused-kept image (state_of w) table steps lent n at d) refused-unfit

    refused-told : length w ≡ 89 → told_by image w table steps lent ≡ told (answer n 0 at) w table
    refused-told l =
        by_fits w
        (λ f. ends-told n at (ap place_of d) l f (kept-refuses image (state_of w) steps lent n at d table))
        (λ f. unfit-run image w table steps lent f ∙ ap (λ (r : Read Model). told (unfit_answer r) w table) (refused-accepted image table n at d))

  module _ (m : Model) (end : ℕ) (d : decode image ≡ read_got m end) where
    taken-unfit : length table ≡ 9 * length m.rules → unfit_by (decode image) ≡ unfit_by (accepted image table)
    taken-unfit l = rw (d, taken-accepted image table (accepted-taken image table m end d l)) refl

    taken-kept : table ≡ fresh_table m.rules (state_of w) → Kept image (state_of w) table steps lent
    taken-kept e = table_kept image (state_of w) table steps lent m end d e

    taken-same : table ≡ fresh_table m.rules (state_of w) → SameBy image w table steps lent
    taken-same e = told-by (taken-kept e) (taken-unfit (ap length e ∙ fresh-length m.rules (state_of w)))

    module _ (l : length w ≡ 89) (ill : (fits w && well_formed m (state_of w)) ≡ false) (long : length table ≡ 9 * length m.rules) where
      unwell : fits w ≡ true → well_formed m (state_of w) ≡ false
      unwell f = rw f at ill

      unwell-kept : fits w ≡ true → Kept image (state_of w) table steps lent
      unwell-kept f =
          ends-alike ill_formed (state_of w) table (kept-six image (state_of w) table steps lent m end d (unwell f) long) (fresh-six image (state_of w) table steps lent m end d (unwell f))

      unwell-told : told_by image w table steps lent ≡ told (answer ill_formed 0 0) w table
      unwell-told =
          by_fits w
          (λ f. ends-told ill_formed 0 (ap place_of d) l f (kept-six image (state_of w) table steps lent m end d (unwell f) long))
          (λ f. six-by image w table steps lent m (accepted-taken image table m end d long) f)

      unwell-same : SameBy image w table steps lent
      unwell-same = by_fits w (λ f. fit-told f (unwell-kept f)) (λ f. unfit-told f (taken-unfit long))

-- ---- with nothing lent

module _ (image w : List ℕ) (steps : ℕ) where
  told_of : (table : List ℕ) → SameBy image w table steps none → SameTold image w table steps
  told_of table a =
      let k = run-told image w table steps in
      let n = free-told image w steps in
      record {
        same_answer = rw (k, n) a.by_answer;
        same_words = rw (k, n) a.by_words;
        same_lent = λ lent. ap (inscribed lent 0) (free-noted image w steps ∙ a.by_events ∙ sym (run-noted image w table steps));
      }

  pub told-alike : (m : Model) (end : ℕ) → decode image ≡ read_got m end → SameTold image w (fresh_table m.rules (state_of w)) steps
  told-alike m end d = let table : List ℕ = fresh_table m.rules (state_of w) in told_of table (taken-same image w steps none table m end d refl)

  pub told-unwell : (m : Model) (end : ℕ) → decode image ≡ read_got m end → length w ≡ 89 → (fits w && well_formed m (state_of w)) ≡ false
      → (table : List ℕ) → length table ≡ 9 * length m.rules → (run_in image w table steps ≡ told (answer ill_formed 0 0) w table) × SameTold image w table steps
  told-unwell m end d l ill table long =
      (run-told image w table steps ∙ unwell-told image w steps none table m end d l ill long, told_of table (unwell-same image w steps none table m end d l ill long))

  pub told-refused : (n at : ℕ) → decode image ≡ read_refused n at → length w ≡ 89 → (table : List ℕ) → (run_in image w table steps ≡ told (answer n 0 at) w table) × SameTold image w table steps
  told-refused n at d l table =
      (run-told image w table steps ∙ refused-told image w steps none table n at d l, told_of table (refused-same image w steps none table n at d))

  pub told-held : (table : List ℕ) → Held image w table → SameTold image w table steps
  told-held table h = by (decode image) refl
    where
      by : (r : Read Model) → decode image ≡ r → SameTold image w table steps
      by (read_refused n at) d = told_of table (refused-same image w steps none table n at d)
      by (read_got m end) d = told_of table (taken-same image w steps none table m end d (reached-fresh image m end d (held-stands image m end d h).reached))

-- ---- with a store that may be lent

module _ (image w : List ℕ) (steps lent : ℕ) (store : List ℕ) where
  module _ (table : List ℕ) where
    -- the store that both leave
    store_of : (fits w ≡ true → Kept image (state_of w) table steps (lent_by lent store)) → (fresh_lent_in image w steps lent store).store ≡ (run_lent_in image w table steps lent store).store
    unfolding fresh_lent run_lent
    store_of a =
        by_fits w
        (λ f. fit-free-store image w steps lent store f ∙ ap (store_left store) (a f).same_store ∙ sym (fit-store image w table steps lent store f))
        (λ f. unfit-free-store image w steps lent store f ∙ sym (unfit-store image w table steps lent store f))

    lent_of : (fits w ≡ true → Kept image (state_of w) table steps (lent_by lent store)) → SameBy image w table steps (lent_by lent store) → SameLent image w table steps lent store
    lent_of kept a =
        let k = lent-told image w table steps lent store in
        let n = lent-free image w steps lent store in
        record {
          same_answer = rw (k, n) a.by_answer;
          same_words = rw (k, n) a.by_words;
          same_store = store_of kept;
          same_events = λ noted. ap (inscribed noted 0) (lent-free-noted image w steps lent store ∙ a.by_events ∙ sym (lent-noted image w table steps lent store));
        }

    -- the store that a run leaves which ends before any step
    store-stays : (n : ℕ) → (fits w ≡ true → trace_lent image (state_of w) table steps (lent_by lent store) ≡ ends n (going (state_of w) table none))
        → (run_lent_in image w table steps lent store).store ≡ store
    unfolding run_lent store_left
    store-stays n k =
        by_fits w
        (λ f. fit-store image w table steps lent store f ∙ ap (λ (x : Run Going). store_left store x.left.store) (k f))
        (λ f. unfit-store image w table steps lent store f)

    told_with_lem : (a : Told) → told_by image w table steps (lent_by lent store) ≡ a → (run_lent_in image w table steps lent store).store ≡ store
        → run_lent_in image w table steps lent store ≡ told_with a store
    told_with_lem a e q = ap₂ (λ (x : Told) (y : List ℕ). told_with x y) (lent-told image w table steps lent store ∙ e) q

    refused-lent : (n at : ℕ) → decode image ≡ read_refused n at → SameLent image w table steps lent store
    refused-lent n at d =
        let l : Option (List ℕ) = lent_by lent store in
        lent_of (λ f. refused-kept image (state_of w) table steps l n at d) (refused-same image w steps l table n at d)

    taken-lent : (m : Model) (end : ℕ) → decode image ≡ read_got m end → table ≡ fresh_table m.rules (state_of w) → SameLent image w table steps lent store
    taken-lent m end d e =
        let l : Option (List ℕ) = lent_by lent store in
        lent_of (λ f. taken-kept image w steps l table m end d e) (taken-same image w steps l table m end d e)

  pub lent_alike : (m : Model) (end : ℕ) → decode image ≡ read_got m end → SameLent image w (fresh_table m.rules (state_of w)) steps lent store
  lent_alike m end d = taken-lent (fresh_table m.rules (state_of w)) m end d refl

  pub lent-unwell : (m : Model) (end : ℕ) → decode image ≡ read_got m end → length w ≡ 89 → (fits w && well_formed m (state_of w)) ≡ false
      → (table : List ℕ) → length table ≡ 9 * length m.rules
      → (run_lent_in image w table steps lent store ≡ told_with (told (answer ill_formed 0 0) w table) store) × SameLent image w table steps lent store
  lent-unwell m end d l ill table long =
      let o : Option (List ℕ) = lent_by lent store in (
        told_with_lem table (told (answer ill_formed 0 0) w table) (unwell-told image w steps o table m end d l ill long)
            (store-stays table ill_formed (λ f. kept-six image (state_of w) table steps o m end d (unwell image w steps o table m end d l ill long f) long)),
        lent_of table (unwell-kept image w steps o table m end d l ill long) (unwell-same image w steps o table m end d l ill long),
      )

  pub lent-misfit : (m : Model) (end : ℕ) → decode image ≡ read_got m end → length w ≡ 89 → fits w ≡ true → well_formed m (state_of w) ≡ true
      → store_fits m.types (lent_by lent store) ≡ false → (table : List ℕ) → length table ≡ 9 * length m.rules
      → (run_lent_in image w table steps lent store ≡ told_with (told (answer bad_store 0 0) w table) store) × SameLent image w table steps lent store
  lent-misfit m end d l f well bad table long =
      let o : Option (List ℕ) = lent_by lent store in
      let k = kept-fifteen image (state_of w) table steps o m end d well bad long in
      let a = ends-alike bad_store (state_of w) table k (fresh-fifteen image (state_of w) table steps o m end d well bad) in (
        told_with_lem table (told (answer bad_store 0 0) w table) (ends-told image w steps o table bad_store 0 (ap place_of d) l f k) (store-stays table bad_store (λ q. k)),
        lent_of table (λ q. a) (fit-told image w steps o table f a),
      )

  pub lent-refused : (n at : ℕ) → decode image ≡ read_refused n at → length w ≡ 89 → (table : List ℕ)
      → (run_lent_in image w table steps lent store ≡ told_with (told (answer n 0 at) w table) store) × SameLent image w table steps lent store
  lent-refused n at d l table =
      let o : Option (List ℕ) = lent_by lent store in (
        told_with_lem table (told (answer n 0 at) w table) (refused-told image w steps o table n at d l)
            (store-stays table n (λ f. kept-refuses image (state_of w) steps o n at d table)),
        refused-lent table n at d,
      )

  pub lent-held : (table : List ℕ) → Held image w table → SameLent image w table steps lent store
  lent-held table h = by (decode image) refl
    where
      by : (r : Read Model) → decode image ≡ r → SameLent image w table steps lent store
      by (read_refused n at) d = refused-lent table n at d
      by (read_got m end) d = taken-lent table m end d (reached-fresh image m end d (held-stands image m end d h).reached)
