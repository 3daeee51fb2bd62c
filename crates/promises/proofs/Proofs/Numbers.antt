-- The rows of document 01's table: which one an image and a table fall under, and what the calls answer there.
use Rattle.std.specs.Prelude.{if◌then◌else◌, ◌≡◌, ◌↔◌, ◌⊎◌, Bool, true, false, not, List, ℕ, zero, suc, ◌*◌, ◌^◌, ◌≤◌, ◌<◌, leb, eqb}
use Rattle.std.proofs.Math.Path.{refl, sym}
use Rattle.std.proofs.Common.{ap, subst, ◌∙◌, inl, inr, ⊎_elim, arith}
use Rattle.std.proofs.Math.Option.{Option, none, some}
use borrow.Author.Tests.{leb-true, leb-false, le-leb, lt-leb, eqb-true, eqb-false, eq-eqb, ne_eqb}
use Rattle.std.proofs.Math.ListN.{length}
use Rattle.meaning.specs.declared.State.{State}
use Rattle.meaning.specs.Numbers.{finer, all_done, too_long, wrong_table, ill_formed, bad_mark, bad_store}
use Rattle.meaning.specs.Model.{Model, Chunk}
use Rattle.meaning.specs.State.{zero_state, well_formed}
use Rattle.meaning.specs.Read.{Read, read_refused, read_got}
use Rattle.meaning.specs.Image.{model, decode}
use Rattle.meaning.specs.Match.{fresh_table}
use Rattle.meaning.specs.Refresh.{refresh, refresh_count}
use Rattle.meaning.specs.Step.{Event, Step, step_stopped, step_made, step_of}
use Rattle.meaning.specs.Learning.{knowing, store_after, overfull, step_with}
use Rattle.meaning.specs.Store.{store_fits, store_of}
use Rattle.meaning.specs.Run.{Going, going, Timed, Run, ends, go_on, run_from}
use Rattle.meaning.specs.Calls.{accepted, place_of, needed_of, open_state, opened_by, open_of, traced_by, trace_lent, Ran, ran_by, run_of, Refreshed, refreshed_by, refresh_of}
use Rattle.laws.specs.BaseLaws.{by-lt, no_true}
use Rattle.promises.specs.Words.{ran_lent}
use Rattle.promises.specs.Sentences.{of-a-variable, Stops, missing, broken, unbound, unended, Beforehand, Unread, over, lacking, against, trailing, Taken}
use Rattle.promises.specs.Sentences.{Given, unread, unfit, taken, GivenBare, refused, read}
use Rattle.promises.specs.Sentences.{AfterOpen, AfterRefresh, ill, high, renewed, stale, late-fire, late-wait, quiet}
use Rattle.promises.specs.Sentences.{Steps, none_made, then-made, EndsBy, enough, before-that, no_room, AfterRun, unwell, misfit, went, RanTo}
use Rattle.promises.proofs.Proofs.Reading.{above, rule-range}
use Rattle.promises.proofs.Proofs.Placed.{decode-long, decode-short, decode-got, model-stops}
use Rattle.promises.proofs.Proofs.Knowing.{Unmade, as-known, crowding, with-stopped, stopped-with}
use Rattle.promises.proofs.Proofs.Stopping.{stopped-why, why-stopped}

-- ---- an image

same-refusal : (a x b y : ℕ) → ◌≡◌ {A = Read Model} (read_refused a x) (read_refused b y) → a ≡ b
same-refusal a x b y e = cc

module _ (image : List ℕ) where
  -- an image is refused exactly by its row
  stopped-unread : (n at : ℕ) → length image ≤ 65536 → model finer image 0 ≡ read_refused n at → Stops image at n → Unread image n
  stopped-unread n at h e (missing w a b c) = lacking h e
  stopped-unread n at h e (broken w a b c k) = against h e k
  stopped-unread n at h e (unbound a) = against h e of-a-variable
  stopped-unread n at h e (unended x a b) = trailing h e

  pub refused-unread : (n at : ℕ) → decode image ≡ read_refused n at → Unread image n
  refused-unread n at d =
      by-lt 65536 (length image)
      (λ h. let q : too_long ≡ n = same-refusal too_long 0 n at (sym (decode-long image h) ∙ d) in subst (Unread image) q (over h))
      (λ h. let e : model finer image 0 ≡ read_refused n at = sym (decode-short image h) ∙ d in stopped-unread n at h e (model-stops image n at e))

  pub unread-refused : {n : ℕ} → Unread image n → (at : ℕ) × (decode image ≡ read_refused n at)
  unread-refused (over h) = (0, decode-long image h)
  unread-refused (lacking {at} h e) = (at, decode-short image h ∙ e)
  unread-refused (against {at} h e k) = (at, decode-short image h ∙ e)
  unread-refused (trailing {at} h e) = (at, decode-short image h ∙ e)

  -- by 1 to 4, or 11 to 13
  pub unread-range : {n : ℕ} → Unread image n → (0 < n) × ((n < 5) ⊎ ((10 < n) × (n < 14)))
  unread-range (over h) = (omega arith, inl (omega arith))
  unread-range (lacking h e) = (omega arith, inl (omega arith))
  unread-range (against {at} {n} h e k) = (omega (arith, above k), ⊎_elim (λ (q : n ≡ 3). inl (omega arith)) (λ (q : (10 < n) × (n < 14)). inr q) (rule-range k))
  unread-range (trailing h e) = (omega arith, inl (omega arith))

  -- a call without a table that refuses by the number of what was refused, and answers otherwise by `after`, answers by its rows
  module _ (answers : Read Model → ℕ) (after : Model → ℕ → Type 0) (refuses : (n at : ℕ) → answers (read_refused n at) ≡ n)
      (goes : (m : Model) (end : ℕ) → decode image ≡ read_got m end → (n : ℕ) → (answers (read_got m end) ≡ n) ↔ after m n) where
    bare-by : (n : ℕ) (r : Read Model) → decode image ≡ r → answers r ≡ n → GivenBare image after n
    bare-by n (read_refused k at) d e = subst (GivenBare image after) (sym (refuses k at) ∙ e) (refused (refused-unread k at d))
    bare-by n (read_got m end) d e = let g = decode-got image m end d in read g.0 g.1 ((goes m end d n).0 e)

    by_bare : (n : ℕ) → GivenBare image after n → answers (decode image) ≡ n
    by_bare n (refused u) = let d = unread-refused u in ap answers d.1 ∙ refuses n d.0
    by_bare n (read {m} {end} h e a) = let d : decode image ≡ read_got m end = decode-short image h ∙ e in ap answers d ∙ (goes m end d n).1 a

    pub exactly-bare : (n : ℕ) → (answers (decode image) ≡ n) ↔ GivenBare image after n
    exactly-bare n = (bare-by n (decode image) refl, by_bare n)

-- ---- the words of a table

pub length-accepted : (image : List ℕ) (m : Model) (end : ℕ) → decode image ≡ read_got m end → needed_of image ≡ record { number = 0; position = 0; words = 9 * length m.rules }
unfolding needed_of
length-accepted image m end d = rw d refl

pub length-refused : (image : List ℕ) (n at : ℕ) → decode image ≡ read_refused n at → needed_of image ≡ record { number = n; position = at; words = 0 }
unfolding needed_of
length-refused image n at d = rw d refl

pub accepted-taken : (image table : List ℕ) (m : Model) (end : ℕ) → decode image ≡ read_got m end → length table ≡ 9 * length m.rules → Taken image table m
accepted-taken image table m end d l = let g = decode-got image m end d in record { short = g.0; end = end; reads = g.1; fits = l }

-- ---- an image and a table

module _ (image table : List ℕ) where
  pub taken-accepted : {m : Model} (t : Taken image table m) → accepted image table ≡ read_got m t.end
  unfolding accepted
  taken-accepted {m} t = rw (decode-short image t.short, t.reads, eq-eqb (length table) (9 * length m.rules) t.fits) refl

  pub refused-accepted : (n at : ℕ) → decode image ≡ read_refused n at → accepted image table ≡ read_refused n at
  unfolding accepted
  refused-accepted n at d = rw d refl

  pub unfit-accepted : (m : Model) (end : ℕ) → length image ≤ 65536 → model finer image 0 ≡ read_got m end → (length table ≡ 9 * length m.rules → ⊥) → accepted image table ≡ read_refused wrong_table 0
  unfolding accepted
  unfit-accepted m end h e l = rw (decode-short image h, e, ne_eqb (length table) (9 * length m.rules) l) refl

  -- which row they fall under
  data Look (after : Model → ℕ → Type 0) : Type 0 where
    turned : (n at : ℕ) → accepted image table ≡ read_refused n at → Given image table after n → Look after
    took : (m : Model) → Taken image table m → Look after

  module _ (after : Model → ℕ → Type 0) where
    look-by : (r : Read Model) → decode image ≡ r → Look after
    look-by (read_refused n at) d = turned n at (refused-accepted n at d) (unread (refused-unread image n at d))
    look-by (read_got m end) d =
        let g = decode-got image m end d in
        (elim (eqb (length table) (9 * length m.rules)) as (λ t. eqb (length table) (9 * length m.rules) ≡ t → Look after) [
          | true ↦ λ t. took m (accepted-taken image table m end d (eqb-true (length table) (9 * length m.rules) t))
          | false ↦ λ t. let l = eqb-false (length table) (9 * length m.rules) t in turned wrong_table 0 (unfit-accepted m end g.0 g.1 l) (unfit g.0 g.1 l)
        ]) refl

    look : Look after
    look = look-by (decode image) refl

  -- a call that refuses by the number of what was refused, and answers otherwise by `after`, answers by the table
  module _ (answers : Read Model → ℕ) (after : Model → ℕ → Type 0) (refuses : (n at : ℕ) → answers (read_refused n at) ≡ n)
      (goes : (m : Model) (end n : ℕ) → (answers (read_got m end) ≡ n) ↔ after m n) where
    answers-given : (n : ℕ) → answers (accepted image table) ≡ n → Given image table after n
    answers-given n e = by (look after)
      where
        by : Look after → Given image table after n
        by (turned k at q g) = subst (Given image table after) (sym (refuses k at) ∙ ap answers (sym q) ∙ e) g
        by (took m t) = taken t ((goes m t.end n).0 (ap answers (sym (taken-accepted t)) ∙ e))

    given-answers : (n : ℕ) → Given image table after n → answers (accepted image table) ≡ n
    given-answers n (unread u) = let d = unread-refused image u in ap answers (refused-accepted n d.0 d.1) ∙ refuses n d.0
    given-answers n (unfit {m} {end} h e l) = ap answers (unfit-accepted m end h e l) ∙ refuses wrong_table 0
    given-answers n (taken {m} t a) = ap answers (taken-accepted t) ∙ (goes m t.end n).1 a

    pub exactly : (n : ℕ) → (answers (accepted image table) ≡ n) ↔ Given image table after n
    exactly n = (answers-given n, given-answers n)

  -- ---- open

  opened-by : (r : Read Model) → ((opened_by table r).number ≡ 0 → ⊥) → ((opened_by table r).state ≡ zero_state) × ((opened_by table r).table ≡ table)
  opened-by (read_refused n at) h = (refl, refl)
  opened-by (read_got m at) h = absurd (h refl)

  pub open-refused : ((open_of image table).number ≡ 0 → ⊥) → ((open_of image table).state ≡ zero_state) × ((open_of image table).table ≡ table)
  unfolding open_of
  open-refused h = opened-by (accepted image table) h

  pub open-number : (n : ℕ) → ((open_of image table).number ≡ n) ↔ Given image table AfterOpen n
  unfolding open_of
  open-number n = exactly (λ r. (opened_by table r).number) AfterOpen (λ k at. refl) (λ m end k. (λ e. sym e, λ e. sym e)) n

  pub open-taken : (m : Model) → Taken image table m → open_of image table ≡ record { number = 0; position = 0; state = open_state m; table = fresh_table m.rules (open_state m) }
  unfolding open_of
  open-taken m t = rw (taken-accepted t) refl

  -- ---- refresh

  module _ (s : State) (mark : ℕ) where
    -- by whether the state is well formed, and the mark too large
    abbrev refreshed : Model → Bool → Bool → Refreshed
    refreshed m t u =
        if not t then record { number = ill_formed; position = 0; count = 0; table = table }
        else (if u then record { number = bad_mark; position = 0; count = 0; table = table }
        else record { number = all_done; position = 0; count = refresh_count m.rules mark; table = refresh m.rules s mark table })

    refresh-row : (m : Model) (end n : ℕ) → ((refreshed_by s mark table (read_got m end)).number ≡ n) ↔ AfterRefresh s mark m n
    refresh-row m end n = (there (well_formed m s) (leb (2 ^ m.buffers) mark) refl refl, back)
      where
        there : (t u : Bool) → well_formed m s ≡ t → leb (2 ^ m.buffers) mark ≡ u → (refreshed m t u).number ≡ n → AfterRefresh s mark m n
        there true true w l e = subst (AfterRefresh s mark m) e (high w (leb-true (2 ^ m.buffers) mark l))
        there true false w l e = subst (AfterRefresh s mark m) e (renewed w (leb-false (2 ^ m.buffers) mark l))
        there false u w l e = subst (AfterRefresh s mark m) e (ill w)

        back : {k : ℕ} → AfterRefresh s mark m k → (refreshed_by s mark table (read_got m end)).number ≡ k
        back (ill w) = rw w refl
        back (high w l) = rw (w, le-leb (2 ^ m.buffers) mark l) refl
        back (renewed w l) = rw (w, lt-leb (2 ^ m.buffers) mark l) refl

    pub refresh-number : (n : ℕ) → ((refresh_of image s mark table).number ≡ n) ↔ Given image table (AfterRefresh s mark) n
    unfolding refresh_of
    refresh-number n = exactly (λ r. (refreshed_by s mark table r).number) (AfterRefresh s mark) (λ k at. refl) refresh-row n

    refused-by : (r : Read Model) → ((refreshed_by s mark table r).number ≡ 0 → ⊥) → ((refreshed_by s mark table r).count ≡ 0) × ((refreshed_by s mark table r).table ≡ table)
    refused-by (read_refused n at) h = (refl, refl)
    refused-by (read_got m at) h = by (well_formed m s) (leb (2 ^ m.buffers) mark) h
      where
        by : (t u : Bool) → ((refreshed m t u).number ≡ 0 → ⊥) → ((refreshed m t u).count ≡ 0) × ((refreshed m t u).table ≡ table)
        by true true k = (refl, refl)
        by true false k = absurd (k refl)
        by false u k = (refl, refl)

    pub refresh-refused : ((refresh_of image s mark table).number ≡ 0 → ⊥) → ((refresh_of image s mark table).count ≡ 0) × ((refresh_of image s mark table).table ≡ table)
    unfolding refresh_of
    refresh-refused h = refused-by (accepted image table) h

    pub refresh-taken : (m : Model) → Taken image table m → well_formed m s ≡ true → mark < 2 ^ m.buffers
        → refresh_of image s mark table ≡ record { number = 0; position = 0; count = refresh_count m.rules mark; table = refresh m.rules s mark table }
    unfolding refresh_of
    refresh-taken m t w l = rw (taken-accepted t, w, lt-leb (2 ^ m.buffers) mark l) refl

-- ---- run, with words lent or none

-- why a step with a store is not made
run-why : (m : Model) (n : ℕ) (g : Going) (k : ℕ) → Unmade m g.store g.state (step_of (knowing m g.store) g.state g.table) k → EndsBy m (suc n) 0 g k
run-why m n g k (as-known q) = before-that (omega arith) (stopped-why (knowing m g.store) g.state g.table k q)
run-why m n g k (crowding q o) = no_room (omega arith) q o

run-left : (m : Model) (n : ℕ) (g : Going) → let r : Run Going = run_from m n g in RanTo m g n r.events (ran_by 0 r) r.left.store
unfolding run_from
run-left m zero g = record { steps = none_made; counted = refl; unplaced = refl; ended = enough refl }
run-left m (suc n) g = by (λ g'. run-left m n g') (step_with m g.store g.state g.table) refl
  where
    by : ((g' : Going) → RanTo m g' n (run_from m n g').events (ran_by 0 (run_from m n g')) (run_from m n g').left.store) → (st : Step)
        → step_with m g.store g.state g.table ≡ st
        → let r : Run Going = go_on m g (λ g'. run_from m n g') st in RanTo m g (suc n) r.events (ran_by 0 r) r.left.store
    by ih (step_stopped k) q =
        record { steps = none_made; counted = refl; unplaced = refl; ended = run-why m n g k (with-stopped m g.store g.state g.table k q) }
    by ih (step_made e s' mark) q =
        let r = ih (going s' (refresh m.rules s' mark g.table) (store_after m g.state e g.store)) in
        record { steps = then-made q r.steps; counted = refl; unplaced = refl; ended = longer r.ended }
      where
        longer : {k number : ℕ} {x : Going} → EndsBy m n k x number → EndsBy m (suc n) (suc k) x number
        longer (enough p) = enough (ap suc p)
        longer (before-that l w) = before-that (omega arith) w
        longer (no_room l p o) = no_room (omega arith) p o

run_ends : (m : Model) {es : List Timed} {g g' : Going} → Steps m es g g' → (asked : ℕ) {n : ℕ} → EndsBy m asked (length es) g' n → (run_from m asked g).number ≡ n
unfolding run_from
run_ends m none_made zero (enough e) = refl
run_ends m none_made zero (before-that l w) = absurd (omega arith)
run_ends m none_made zero (no_room l p o) = absurd (omega arith)
run_ends m none_made (suc k) (enough e) = absurd (omega arith)
run_ends m (none_made {g}) (suc k) (before-that l w) =
    rw (stopped-with m g.store g.state g.table (as-known (why-stopped (knowing m g.store) g.state g.table w))) refl
run_ends m (none_made {g}) (suc k) (no_room l p o) = rw (stopped-with m g.store g.state g.table (crowding p o)) refl
run_ends m (then-made q rest) zero (enough e) = absurd (omega arith)
run_ends m (then-made q rest) zero (before-that l w) = absurd (omega arith)
run_ends m (then-made q rest) zero (no_room l p o) = absurd (omega arith)
run_ends m (then-made q rest) (suc k) (enough e) = rw q (run_ends m rest k (enough (omega arith)))
run_ends m (then-made q rest) (suc k) (before-that l w) = rw q (run_ends m rest k (before-that (omega arith) w))
run_ends m (then-made q rest) (suc k) (no_room l p o) = rw q (run_ends m rest k (no_room (omega arith) p o))

module _ (image table : List ℕ) (s : State) (lent : Option (List ℕ)) (asked : ℕ) where
  -- by whether the state is well formed, and the words that are lent fit
  abbrev traced : Model → Bool → Bool → Run Going
  traced m t u = if not t then ends ill_formed (going s table none) else (if not u then ends bad_store (going s table none) else run_from m asked (going s table (store_of lent)))

  run_row : (m : Model) (end n : ℕ) → ((traced_by s table lent asked (read_got m end)).number ≡ n) ↔ AfterRun s table lent asked m n
  run_row m end n = (there (well_formed m s) (store_fits m.types lent) refl refl, back)
    where
      there : (t u : Bool) → well_formed m s ≡ t → store_fits m.types lent ≡ u → (traced m t u).number ≡ n → AfterRun s table lent asked m n
      there true true w f e = subst (AfterRun s table lent asked m) e (let r = run-left m asked (going s table (store_of lent)) in went w f r.steps r.ended)
      there true false w f e = subst (AfterRun s table lent asked m) e (misfit w f)
      there false u w f e = subst (AfterRun s table lent asked m) e (unwell w)

      back : {k : ℕ} → AfterRun s table lent asked m k → (traced_by s table lent asked (read_got m end)).number ≡ k
      back (unwell w) = rw w refl
      back (misfit w f) = rw (w, f) refl
      back (went w f steps by) = rw (w, f) (run_ends m steps asked by)

  pub run-number : (n : ℕ) → ((ran_lent image s table asked lent).number ≡ n) ↔ Given image table (AfterRun s table lent asked) n
  unfolding trace_lent
  run-number n = exactly image table (λ r. (traced_by s table lent asked r).number) (AfterRun s table lent asked) (λ k at. refl) run_row n

  pub run-taken : (m : Model) → Taken image table m → well_formed m s ≡ true → store_fits m.types lent ≡ true
      → let r : Run Going = trace_lent image s table asked lent in RanTo m (going s table (store_of lent)) asked r.events (ran_lent image s table asked lent) r.left.store
  unfolding trace_lent
  run-taken m t w f = rw (taken-accepted image table t, w, f) (run-left m asked (going s table (store_of lent)))

  -- a run that went ends by 0, 7, 8, 9 or 14
  ends-late : (m : Model) {n made : ℕ} {x : Going} → EndsBy m asked made x n → Beforehand n → ⊥
  ends-late m (enough e) b = omega (arith, b.0)
  ends-late m (before-that l (stale o d)) b = ⊎_elim (λ (h : 7 < 7). omega arith) (λ (h : 9 < 7). omega arith) b.1
  ends-late m (before-that l (late-fire o d e)) b = ⊎_elim (λ (h : 8 < 7). omega arith) (λ (h : 9 < 8). omega arith) b.1
  ends-late m (before-that l (late-wait o d e)) b = ⊎_elim (λ (h : 8 < 7). omega arith) (λ (h : 9 < 8). omega arith) b.1
  ends-late m (before-that l (quiet o d)) b = ⊎_elim (λ (h : 9 < 7). omega arith) (λ (h : 9 < 9). omega arith) b.1
  ends-late m (no_room l p o) b = b.2 refl

  refused-left : (r : Read Model) → let t : Run Going = traced_by s table lent asked r in Beforehand t.number → t ≡ ends t.number (going s table none)
  refused-left (read_refused n at) b = refl
  refused-left (read_got m at) b = by (well_formed m s) (store_fits m.types lent) b
    where
      by : (t u : Bool) → Beforehand (traced m t u).number → traced m t u ≡ ends (traced m t u).number (going s table none)
      by true true b = absurd (ends-late m (run-left m asked (going s table (store_of lent))).ended b)
      by true false b = refl
      by false u b = refl

  pub left-refused : Beforehand (ran_lent image s table asked lent).number → trace_lent image s table asked lent ≡ ends (ran_lent image s table asked lent).number (going s table none)
  unfolding trace_lent
  left-refused b = refused-left (accepted image table) b

  pub run-refused : Beforehand (ran_lent image s table asked lent).number
      → let a : Ran = ran_lent image s table asked lent in a ≡ record { number = a.number; position = a.position; state = s; table = table; made = 0 }
  run-refused b = ap (ran_by (place_of (accepted image table))) (left-refused b)

-- ---- no number is larger than 13

given-small : (image table : List ℕ) (after : Model → ℕ → Type 0) → ((m : Model) (n : ℕ) → after m n → n < 14) → (n : ℕ) → Given image table after n → n < 14
given-small image table after h n (unread u) = ⊎_elim (λ (l : n < 5). omega arith) (λ (l : (10 < n) × (n < 14)). l.1) (unread-range image u).1
given-small image table after h n (unfit l e f) = omega arith
given-small image table after h n (taken {m} t a) = h m n a

pub open-small : (image table : List ℕ) → (open_of image table).number < 14
open-small image table = given-small image table AfterOpen (λ m n e. omega arith) (open_of image table).number ((open-number image table (open_of image table).number).0 refl)

pub refresh-small : (image table : List ℕ) (s : State) (mark : ℕ) → (refresh_of image s mark table).number < 14
refresh-small image table s mark =
    given-small image table (AfterRefresh s mark) by (refresh_of image s mark table).number ((refresh-number image table s mark (refresh_of image s mark table).number).0 refl)
  where
    by : (m : Model) (n : ℕ) → AfterRefresh s mark m n → n < 14
    by m n (ill w) = omega arith
    by m n (high w l) = omega arith
    by m n (renewed w l) = omega arith

pub lent-small : (image table : List ℕ) (s : State) (lent : Option (List ℕ)) (asked : ℕ) → (ran_lent image s table asked lent).number < 16
lent-small image table s lent asked = small (ran_lent image s table asked lent).number ((run-number image table s lent asked (ran_lent image s table asked lent).number).0 refl)
  where
    by : (m : Model) (n : ℕ) → AfterRun s table lent asked m n → n < 16
    by m n (unwell w) = omega arith
    by m n (misfit w f) = omega arith
    by m n (went w f p (enough e)) = omega arith
    by m n (went w f p (before-that l (stale o d))) = omega arith
    by m n (went w f p (before-that l (late-fire o d e))) = omega arith
    by m n (went w f p (before-that l (late-wait o d e))) = omega arith
    by m n (went w f p (before-that l (quiet o d))) = omega arith
    by m n (went w f p (no_room l q o)) = omega arith

    small : (n : ℕ) → Given image table (AfterRun s table lent asked) n → n < 16
    small n (unread u) = ⊎_elim (λ (l : n < 5). omega arith) (λ (l : (10 < n) × (n < 14)). omega (arith, l.1)) (unread-range image u).1
    small n (unfit l e f) = omega arith
    small n (taken {m} t a) = by m n a

-- where nothing is lent there is no 14 and no 15
pub run_small : (image table : List ℕ) (s : State) (asked : ℕ) → (run_of image s table asked).number < 14
unfolding run_of store_fits
run_small image table s asked =
    given-small image table (AfterRun s table none asked) by (run_of image s table asked).number ((run-number image table s none asked (run_of image s table asked).number).0 refl)
  where
    never : (e : Event) (m : Model) (x : State) (store : Option (List Chunk)) → store ≡ none → overfull (store_after m x e store) ≡ true → ⊥
    never e m x none q o = no_true (sym o)
    never e m x (some cs) q o = let z : ◌≡◌ {A = ℕ} 0 1 = cc in omega arith

    -- along the steps nothing is lent
    bare : (m : Model) {es : List Timed} {g g' : Going} → Steps m es g g' → g.store ≡ none → g'.store ≡ none
    bare m none_made q = q
    bare m (then-made {e} {g = g} p rest) q = bare m rest (ap (store_after m g.state e) q)

    by : (m : Model) (n : ℕ) → AfterRun s table none asked m n → n < 14
    by m n (unwell w) = omega arith
    by m n (misfit w f) = absurd (no_true f)
    by m n (went w f p (enough e)) = omega arith
    by m n (went w f p (before-that l (stale o d))) = omega arith
    by m n (went w f p (before-that l (late-fire o d e))) = omega arith
    by m n (went w f p (before-that l (late-wait o d e))) = omega arith
    by m n (went w f p (before-that l (quiet o d))) = omega arith
    by m n (went {g = g} w f p (no_room {e} l q o)) = absurd (never e m g.state g.store (bare m p refl) o)
