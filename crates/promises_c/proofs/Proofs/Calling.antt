-- Calls over words: what a refused one leaves, and what a chain of them holds.
use Rattle.std.specs.Prelude.{if◌then◌else◌, ◌≡◌, Bool, true, false, List, [], ℕ, ◌*◌, ◌≤◌, ◌<◌, eqb, length, get_or, replicate}
use Rattle.std.proofs.Math.Path.{refl, ap}
use Rattle.std.proofs.Common.{sym, ap₂, subst, ◌∙◌, arith}
use Rattle.std.proofs.Math.Option.{Option, none}
use Rattle.meaning.specs.declared.State.{State}
use Rattle.meaning.specs.Base.{bit}
use Rattle.meaning.specs.Numbers.{wrong_table, ill_formed}
use Rattle.meaning.specs.Model.{Model}
use Rattle.meaning.specs.State.{zero_state}
use Rattle.meaning.specs.Read.{Read, read_refused, read_got}
use Rattle.meaning.specs.Image.{decode}
use Rattle.meaning.specs.Match.{fresh_table}
use Rattle.meaning.specs.Step.{largest}
use Rattle.meaning.specs.Store.{lent_by, store_fits, store_of}
use Rattle.meaning.specs.Run.{Going, Timed, Run}
use Rattle.meaning.specs.Calls.{fitting, accepted, place_of, opened_by, open_of, Ran, WithStore, trace_lent, run_lent, run_of, Refreshed, refresh_of}
use Rattle.meaning.specs.Fresh.{moving}
use Rattle.jirvuntsag.specs.Words.{state_of, words_of, fits}
use Rattle.jirvuntsag.specs.Told.{answer, unfit_by, unfit_answer, Told, told, told_run, told_refresh, open_in, run_in, refresh_in, events_in}
use Rattle.jirvuntsag.specs.Lent.{told_with, run_lent_in, lent_events_in}
use Rattle.laws.specs.MatchLaws.{fresh-length}
use Rattle.laws.specs.CallsLaws.{traced-most}
use Rattle.promises.specs.Words.{Machine, Reached, alone, ran_lent}
use Rattle.promises.specs.Words as words
use Rattle.promises.specs.Published.{RanOn}
use Rattle.promises.proofs.Semantics.{reached-run, reached-lent}
use Rattle.promises.specs.Sentences.{Beforehand, Taken}
use Rattle.promises.proofs.Numbers.{accepted-taken, open-refused, lent-refused, refresh-refused}
use Rattle.promises.proofs.Keeping.{reached-fresh, reached-machine}
use Rattle.promises.proofs.Proofs.Numbers.{taken-accepted, open-small, refresh-small, run-refused, left-refused, lent-small}
use Rattle.promises_c.specs.Handing.{number_in, count_in, Reads, ran_in, SameBuffer, Leaves, Held, opened, ran, refreshed, changed, lay_events}
use Rattle.promises_c.proofs.Proofs.Back.{state-back, same-buffer, fit-back, all_words, words-fit, state-fits}

-- ---- an answer taken apart

-- whatever was counted, the number is read back
pub number_of : (n k p : ℕ) → n < 16 → number_in (answer n k p) ≡ n
number_of n k p h = omega arith

-- nothing counted is read back as nothing
pub none_of : (n k p : ℕ) → n < 16 → k ≡ 0 → count_in (answer n k p) ≡ 0
none_of n k p h z = omega arith

-- 14 and 15 come only from a run
pub below : {n : ℕ} → n < 14 → n < 16
below h = omega arith

pub answer-reads : (n k p : ℕ) → n < 65536 → k < 65536 → Reads (answer n k p) n k p
answer-reads n k p h l = record { number_read = omega arith; count_read = omega arith; position_read = omega arith }

-- ---- the position that a call answers does not depend on the table

pub same_place : (image table : List ℕ) → place_of (accepted image table) ≡ place_of (decode image)
unfolding accepted
same_place image table = by (decode image)
  where
    by : (r : Read Model) → place_of (fitting table r) ≡ place_of r
    by (read_refused n at) = refl
    by (read_got m at) = elim (eqb (length table) (9 * length m.rules)) as (λ t. place_of (if t then read_got m at else read_refused wrong_table 0) ≡ 0) [ true ↦ refl | false ↦ refl ]

-- ---- a run with a table, where words are lent or none

unfoldable pub told_by : List ℕ → List ℕ → List ℕ → ℕ → Option (List ℕ) → Told
told_by image w table steps lent = if fits w then told_run (ran_lent image (state_of w) table steps lent) else told (unfit_answer (accepted image table)) w table

unfoldable pub events_by : List ℕ → List ℕ → List ℕ → ℕ → Option (List ℕ) → List Timed
events_by image w table steps lent = if fits w then (trace_lent image (state_of w) table steps lent).events else []

by_bool : {C : Type 0} (t : Bool) → (t ≡ true → C) → (t ≡ false → C) → C
by_bool true f g = f refl
by_bool false f g = g refl

pub by_fits : {C : Type 0} (w : List ℕ) → (fits w ≡ true → C) → (fits w ≡ false → C) → C
by_fits w f g = by_bool (fits w) f g

module _ (image w table : List ℕ) (steps : ℕ) where
  -- the calls are such runs
  pub run-told : run_in image w table steps ≡ told_by image w table steps none
  unfolding run_in run_of told_by
  run-told = refl

  pub run-noted : events_in image w table steps ≡ events_by image w table steps none
  unfolding events_in events_by
  run-noted = refl

  module _ (lent : ℕ) (store : List ℕ) where
    pub lent-told : (run_lent_in image w table steps lent store).answer ≡ told_by image w table steps (lent_by lent store)
    unfolding run_lent_in run_lent told_by
    lent-told = by_fits w (λ f. rw f refl) (λ f. rw f refl)

    pub lent-noted : lent_events_in image w table steps lent store ≡ events_by image w table steps (lent_by lent store)
    unfolding lent_events_in events_by
    lent-noted = refl

    -- and leave the store so
    pub fit-store : fits w ≡ true → (run_lent_in image w table steps lent store).store ≡ (run_lent image (state_of w) table steps lent store).store
    unfolding run_lent_in
    fit-store f = rw f refl

    pub unfit-store : fits w ≡ false → (run_lent_in image w table steps lent store).store ≡ store
    unfolding run_lent_in
    unfit-store f = rw f refl

  module _ (lent : Option (List ℕ)) where
    pub fit-run : fits w ≡ true → told_by image w table steps lent ≡ told_run (ran_lent image (state_of w) table steps lent)
    unfolding told_by
    fit-run f = rw f refl

    pub unfit-run : fits w ≡ false → told_by image w table steps lent ≡ told (unfit_answer (accepted image table)) w table
    unfolding told_by
    unfit-run f = rw f refl

    pub fit-events : fits w ≡ true → events_by image w table steps lent ≡ (trace_lent image (state_of w) table steps lent).events
    unfolding events_by
    fit-events f = rw f refl

    pub unfit-events : fits w ≡ false → events_by image w table steps lent ≡ []
    unfolding events_by
    unfit-events f = rw f refl

    pub six-by : (m : Model) → Taken image table m → fits w ≡ false → told_by image w table steps lent ≡ told (answer ill_formed 0 0) w table
    six-by m t f = unfit-run f ∙ ap (λ (r : Read Model). told (unfit_answer r) w table) (taken-accepted image table t)

-- ---- words too large for their fields

pub unfit-small : (image table : List ℕ) → unfit_by (accepted image table) < 14
unfolding open_of
unfit-small image table = by (accepted image table) (open-small image table)
  where
    by : (r : Read Model) → (opened_by table r).number < 14 → unfit_by r < 14
    by (read_refused n at) h = h
    by (read_got m at) h = omega arith

pub unfit-reads : (r : Read Model) → unfit_by r < 14 → Reads (unfit_answer r) (unfit_by r) 0 (place_of r)
unfit-reads r h = answer-reads (unfit_by r) 0 (place_of r) (omega arith) (omega arith)

pub unfit-refresh : (image w table : List ℕ) (mark : ℕ) → fits w ≡ false → refresh_in image w mark table ≡ told (unfit_answer (accepted image table)) w table
unfolding refresh_in
unfit-refresh image w table mark f = rw f refl

pub run-six : (image w table : List ℕ) (steps : ℕ) (m : Model) → Taken image table m → fits w ≡ false → run_in image w table steps ≡ told (answer ill_formed 0 0) w table
run-six image w table steps m t f = run-told image w table steps ∙ six-by image w table steps none m t f

pub lent-six : (image w table : List ℕ) (steps lent : ℕ) (store : List ℕ) (m : Model) → Taken image table m → fits w ≡ false
    → run_lent_in image w table steps lent store ≡ told_with (told (answer ill_formed 0 0) w table) store
lent-six image w table steps lent store m t f =
    ap₂ (λ (x : Told) (y : List ℕ). told_with x y) (lent-told image w table steps lent store ∙ six-by image w table steps (lent_by lent store) m t f)
    (unfit-store image w table steps lent store f)

pub refresh-six : (image w table : List ℕ) (mark : ℕ) (m : Model) → Taken image table m → fits w ≡ false → refresh_in image w mark table ≡ told (answer ill_formed 0 0) w table
refresh-six image w table mark m t f = unfit-refresh image w table mark f ∙ ap (λ (r : Read Model). told (unfit_answer r) w table) (taken-accepted image table t)

-- ---- words that fit

pub fit-refresh : (image w table : List ℕ) (mark : ℕ) → fits w ≡ true → refresh_in image w mark table ≡ told_refresh w (refresh_of image (state_of w) mark table)
unfolding refresh_in
fit-refresh image w table mark f = rw f refl

-- no more steps are made than asked
pub most-by : (image : List ℕ) (s : State) (table : List ℕ) (steps : ℕ) (lent : Option (List ℕ)) → (ran_lent image s table steps lent).made ≤ steps
unfolding trace_lent
most-by image s table steps lent = traced-most s table lent steps (accepted image table)

-- steps asked have 16 bits, and so have those made
reads-by : (image w : List ℕ) → fits w ≡ true → (table : List ℕ) (steps : ℕ) (lent : Option (List ℕ)) → steps ≤ 65535
    → let r = ran_lent image (state_of w) table steps lent in Reads (told_by image w table steps lent).answered r.number r.made r.position
reads-by image w f table steps lent few =
    let r = ran_lent image (state_of w) table steps lent in
    rw (fit-run image w table steps lent f)
    (answer-reads r.number r.made r.position (omega (arith, lent-small image table (state_of w) lent steps)) (omega (arith, most-by image (state_of w) table steps lent)))

module _ (image w : List ℕ) (f : fits w ≡ true) (table : List ℕ) (steps : ℕ) where
  pub run-reads : steps ≤ 65535 → let r = run_of image (state_of w) table steps in Reads (run_in image w table steps).answered r.number r.made r.position
  unfolding run_of
  run-reads few = rw (run-told image w table steps) (reads-by image w f table steps none few)

  pub lent_reads : (lent : ℕ) (store : List ℕ) → steps ≤ 65535
      → let r = (run_lent image (state_of w) table steps lent store).answer in Reads (run_lent_in image w table steps lent store).answer.answered r.number r.made r.position
  unfolding run_lent
  lent_reads lent store few = rw (lent-told image w table steps lent store) (reads-by image w f table steps (lent_by lent store) few)

-- ---- what a refused call leaves

module _ (image w table : List ℕ) where
  unfit-left : Leaves w table (told (unfit_answer (accepted image table)) w table)
  unfit-left = record { words_stay = refl; table_stays = refl; none_counted = omega (arith, unfit-small image table) }

  module _ (steps : ℕ) (lent : Option (List ℕ)) where
    number_by : fits w ≡ true → number_in (told_by image w table steps lent).answered ≡ (ran_lent image (state_of w) table steps lent).number
    number_by f =
        let r : Ran = ran_lent image (state_of w) table steps lent in
        ap (λ (x : Told). number_in x.answered) (fit-run image w table steps lent f) ∙ number_of r.number r.made r.position (lent-small image table (state_of w) lent steps)

    module _ (b : Beforehand (number_in (told_by image w table steps lent).answered)) where
      fit-left : fits w ≡ true → length w ≡ 89 → Leaves w table (told_run (ran_lent image (state_of w) table steps lent))
      fit-left f l =
          let r : Ran = ran_lent image (state_of w) table steps lent in
          let left = run-refused image table (state_of w) lent steps (rw (number_by f) at b) in
          record {
            words_stay = ap (λ (x : Ran). words_of x.state) left ∙ fit-back w l f;
            table_stays = ap (λ (x : Ran). x.table) left;
            none_counted = none_of r.number r.made r.position (lent-small image table (state_of w) lent steps) (ap (λ (x : Ran). x.made) left);
          }

      leaves_by : length w ≡ 89 → Leaves w table (told_by image w table steps lent)
      leaves_by l = by_fits w (λ f. rw (fit-run image w table steps lent f) (fit-left f l)) (λ f. rw (unfit-run image w table steps lent f) unfit-left)

      untold-by : events_by image w table steps lent ≡ []
      untold-by =
          by_fits w
          (λ f. fit-events image w table steps lent f ∙ ap (λ (r : Run Going). r.events) (left-refused image table (state_of w) lent steps (rw (number_by f) at b)))
          (λ f. unfit-events image w table steps lent f)

  pub run-leaves : (steps : ℕ) → length w ≡ 89 → let a : Told = run_in image w table steps in Beforehand (number_in a.answered) → Leaves w table a
  run-leaves steps l b = let e = run-told image w table steps in rw e (leaves_by steps none (rw e at b) l)

  pub trace-leaves : (noted : List ℕ) (steps : ℕ) → Beforehand (number_in (run_in image w table steps).answered) → lay_events noted (events_in image w table steps) ≡ noted
  trace-leaves noted steps b = ap (lay_events noted) (run-noted image w table steps ∙ untold-by steps none (rw (run-told image w table steps) at b))

  module _ (steps lent : ℕ) (store : List ℕ) (b : Beforehand (number_in (run_lent_in image w table steps lent store).answer.answered)) where
    behind : Beforehand (number_in (told_by image w table steps (lent_by lent store)).answered)
    behind = rw (lent-told image w table steps lent store) at b

    pub lent-leaves : length w ≡ 89 → Leaves w table (run_lent_in image w table steps lent store).answer
    lent-leaves l = rw (lent-told image w table steps lent store) (leaves_by steps (lent_by lent store) behind l)

    -- "the store unaltered"
    pub store-leaves : (run_lent_in image w table steps lent store).store ≡ store
    unfolding run_lent
    store-leaves =
        by_fits w
        (λ f.
        fit-store image w table steps lent store f
        ∙ ap (λ (x : WithStore Ran). x.store) (lent-refused image table (state_of w) steps lent store (rw (number_by steps (lent_by lent store) f) at behind)))
        (λ f. unfit-store image w table steps lent store f)

    pub lent-trace-leaves : (noted : List ℕ) → lay_events noted (lent_events_in image w table steps lent store) ≡ noted
    lent-trace-leaves noted = ap (lay_events noted) (lent-noted image w table steps lent store ∙ untold-by steps (lent_by lent store) behind)

  refresh-left : (mark : ℕ) → let a : Told = told_refresh w (refresh_of image (state_of w) mark table) in (number_in a.answered ≡ 0 → ⊥) → Leaves w table a
  refresh-left mark h =
      let r : Refreshed = refresh_of image (state_of w) mark table in
      let small : r.number < 16 = below (refresh-small image table (state_of w) mark) in
      let left = refresh-refused image table (state_of w) mark (λ z. h (number_of r.number r.count r.position small ∙ z)) in
      record { words_stay = refl; table_stays = left.1; none_counted = none_of r.number r.count r.position small left.0 }

  pub refresh-leaves : (mark : ℕ) → let a : Told = refresh_in image w mark table in (number_in a.answered ≡ 0 → ⊥) → Leaves w table a
  refresh-leaves mark h =
      by_fits w
      (λ f. let e = fit-refresh image w table mark f in rw e (refresh-left mark (rw e at h)))
      (λ f. rw (unfit-refresh image w table mark f) unfit-left)

open-number : (image table : List ℕ) → number_in (open_in image table).answered ≡ (open_of image table).number
unfolding open_in
open-number image table = let o = open_of image table in number_of o.number 0 o.position (below (open-small image table))

zeros : words_of zero_state ≡ replicate 89 0
unfolding words_of
zeros = refl

pub open-leaves : (image table : List ℕ) → (number_in (open_in image table).answered ≡ 0 → ⊥) → Leaves (replicate 89 0) table (open_in image table)
unfolding open_in
open-leaves image table h =
    let o = open_of image table in
    let left = open-refused image table (λ z. h (open-number image table ∙ z)) in
    record {
      words_stay = ap words_of left.0 ∙ zeros;
      table_stays = left.1;
      none_counted = none_of o.number 0 o.position (below (open-small image table)) refl;
    }

-- ---- the chain

-- what a caller in C holds is what a chain of calls over states has reached
pub record Stands (image w table : List ℕ) : Type 0 where
  pub many : length w ≡ 89
  pub fit : fits w ≡ true
  pub reached : Reached image (state_of w) table

module _ (image : List ℕ) (m : Model) (end : ℕ) (d : decode image ≡ read_got m end) where
  laid : (s : State) (table : List ℕ) → Reached image s table → Stands image (words_of s) table
  laid s table r =
      let k : Machine s = reached-machine image m end d r in
      record { many = all_words s k; fit = words-fit s k; reached = subst (λ (x : State). Reached image x table) (sym (state-back s k)) r }

  open-stands : (table : List ℕ) → number_in (open_in image table).answered ≡ 0 → Stands image (open_in image table).words (open_in image table).table
  unfolding open_in
  open-stands table e = laid (open_of image table).state (open_of image table).table (words.opened table (sym (open-number image table) ∙ e))

  ran-stands : (w table : List ℕ) → Stands image w table → (steps lent : ℕ) (store : List ℕ)
      → let a : Told = (run_lent_in image w table steps lent store).answer in Stands image a.words a.table
  unfolding run_lent
  ran-stands w table h steps lent store =
      let r : Ran = (run_lent image (state_of w) table steps lent store).answer in
      rw (lent-told image w table steps lent store, fit-run image w table steps (lent_by lent store) h.fit) (laid r.state r.table (words.ran h.reached steps lent store))

  refreshed-stands : (w table : List ℕ) → Stands image w table → (mark : ℕ) → Stands image (refresh_in image w mark table).words (refresh_in image w mark table).table
  refreshed-stands w table h mark =
      rw (fit-refresh image w table mark h.fit) (record { many = h.many; fit = h.fit; reached = words.refreshed h.reached mark })

  changed-stands : (w table : List ℕ) → Stands image w table → (w' : List ℕ) (mark : ℕ) → length w' ≡ 89 → get_or w' 0 0 ≤ largest → ((b : ℕ) → bit mark b ≡ false → SameBuffer w w' b)
      → number_in (refresh_in image w' mark table).answered ≡ 0 → Stands image w' (refresh_in image w' mark table).table
  changed-stands w table h w' mark l c same e =
      by_fits w'
      (λ f.
      let q : refresh_in image w' mark table ≡ told_refresh w' (refresh_of image (state_of w') mark table) = fit-refresh image w' table mark f in
      let r : Refreshed = refresh_of image (state_of w') mark table in
      let done : r.number ≡ 0 = sym (number_of r.number r.count r.position (below (refresh-small image table (state_of w') mark))) ∙ rw q at e in
      rw q (record { many = l; fit = f; reached = words.changed h.reached (state_of w') mark (state-fits w' f c) (λ b z. same-buffer w w' b (same b z)) done }))
      (λ f.
      let fresh : table ≡ fresh_table m.rules (state_of w) = reached-fresh image m end d h.reached in
      let t : Taken image table m = accepted-taken image table m end d (ap length fresh ∙ fresh-length m.rules (state_of w)) in
      let six : ◌≡◌ {A = ℕ} 6 0 = rw (refresh-six image w' table mark m t f) at e in
      absurd (omega arith))

  pub held-stands : {w table : List ℕ} → Held image w table → Stands image w table
  held-stands (opened table e) = open-stands table e
  held-stands (ran {w} {table} h steps lent store) = ran-stands w table (held-stands h) steps lent store
  held-stands (refreshed {w} {table} h mark) = refreshed-stands w table (held-stands h) mark
  held-stands (changed {w} {table} h w' mark l c same e) = changed-stands w table (held-stands h) w' mark l c same e

  -- a run over words that fit answers as the run over their state
  back_by : (w table : List ℕ) → Stands image w table → (steps : ℕ) (lent : Option (List ℕ)) → steps ≤ 65535 → Machine (ran_lent image (state_of w) table steps lent).state
      → ran_in (told_by image w table steps lent) ≡ ran_lent image (state_of w) table steps lent
  back_by w table h steps lent few machine =
      let read = reads-by image w h.fit table steps lent few in
      rw (read.number_read, read.count_read, read.position_read, fit-run image w table steps lent h.fit, state-back (ran_lent image (state_of w) table steps lent).state machine) refl

  pub held-run : (w table : List ℕ) → Held image w table → (steps : ℕ) → steps ≤ 65535
      → RanOn m (alone (state_of w)) steps (events_in image w table steps) (ran_in (run_in image w table steps)) none
  unfolding run_lent run_of
  held-run w table h steps few =
      let s : Stands image w table = held-stands h in
      let machine = reached-machine image m end d (words.ran s.reached steps 0 []) in
      rw (run-told image w table steps, run-noted image w table steps, fit-events image w table steps none s.fit, back_by w table s steps none few machine)
      (reached-run image m end d (state_of w) table s.reached steps)

  pub held-lent-run : (w table : List ℕ) → Held image w table → (steps lent : ℕ) (store : List ℕ) → steps ≤ 65535 → store_fits m.types (lent_by lent store) ≡ true
      → RanOn m (moving (state_of w) (store_of (lent_by lent store))) steps (lent_events_in image w table steps lent store) (ran_in (run_lent_in image w table steps lent store).answer)
      (trace_lent image (state_of w) table steps (lent_by lent store)).left.store
  unfolding run_lent
  held-lent-run w table h steps lent store few fits =
      let s : Stands image w table = held-stands h in
      let l : Option (List ℕ) = lent_by lent store in
      let machine = reached-machine image m end d (words.ran s.reached steps lent store) in
      rw (lent-told image w table steps lent store, lent-noted image w table steps lent store, fit-events image w table steps l s.fit, back_by w table s steps l few machine)
      (reached-lent image m end d (state_of w) steps lent store fits table s.reached)
