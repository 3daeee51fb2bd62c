-- The calls on an image without queries, handed two states that are the same but for flags; and on two images that decode to one model.
use Rattle.std.specs.Prelude.{if◌then◌else◌, ◌≡◌, Bool, List, [], ℕ, ◌*◌, eqb}
use Rattle.std.proofs.Math.Path.{refl, ap}
use Rattle.std.proofs.Common.{sym, ◌∙◌}
use Rattle.std.proofs.Math.Bool.{true, false, not}
use Rattle.std.proofs.Math.Option.{Option, none}
use Rattle.std.proofs.Math.ListN.{length}
use Rattle.meaning.specs.declared.State.{State}
use Rattle.meaning.specs.Numbers.{ill_formed, bad_store, wrong_table}
use Rattle.meaning.specs.Model.{Model}
use Rattle.meaning.specs.State.{well_formed}
use Rattle.meaning.specs.Read.{Read, read_refused, read_got}
use Rattle.meaning.specs.Image.{decode}
use Rattle.meaning.specs.Store.{lent_by, store_fits, store_of, store_left}
use Rattle.meaning.specs.Run.{Going, going, Run, ends, run_from}
use Rattle.meaning.specs.Calls.{fitting, accepted, place_of, needed_by, needed_of, opened_by, open_of, traced_by, trace_lent, ran_by, run_lent, run_of, refreshed_by, refresh_of}
use Rattle.meaning.specs.Fresh.{Moving, moving, fresh_from, fresh_by, fresh_trace_lent, fresh_ran_by, fresh_lent, fresh_of}
use Rattle.meaning.specs.Print.{printed_by, printed}
use Rattle.laws.specs.ReadLaws.{no-got}
use Rattle.promises.specs.Before.{version_of, NoQueries, unflagged, unflagged_run, unflagged_fresh, unflagged_ran, unflagged_fresh_ran, SameAnswers}
use Rattle.promises.proofs.Proofs.VersionsRead.{accepted-tested}
use Rattle.promises.proofs.Proofs.VersionsFlags.{refresh-alike}
use Rattle.promises.proofs.Proofs.VersionsRuns.{run-alike, fresh-run-alike}

-- an image that fits its table is one that decodes
fitting-decodes : (image table : List ℕ) (m : Model) (at : ℕ) → accepted image table ≡ read_got m at → decode image ≡ read_got m at
unfolding accepted
fitting-decodes image table m at e = by (decode image) e
  where
    fits : (n : Model) (end : ℕ) (t : Bool) → (if t then read_got n end else read_refused wrong_table 0) ≡ read_got m at → read_got n end ≡ read_got m at
    fits n end true h = h
    fits n end false h = absurd (no-got wrong_table 0 m at h)

    by : (r : Read Model) → fitting table r ≡ read_got m at → r ≡ read_got m at
    by (read_refused n x) h = h
    by (read_got n end) h = fits n end (eqb (length table) (9 * length n.rules)) h

-- ---- two states that are the same but for flags, and that the model of the image, if it has one, judges alike

module _ (image : List ℕ) (other : version_of image ≡ 2 → ⊥) (s t : State) (alike : unflagged s ≡ unflagged t)
    (judged : (m : Model) (end : ℕ) → decode image ≡ read_got m end → well_formed m s ≡ well_formed m t) where
  bare : (m : Model) (end : ℕ) → decode image ≡ read_got m end → NoQueries m.rules
  bare m end d r member = (accepted-tested image m end d other r member).0

  module _ (steps : ℕ) (lent : Option (List ℕ)) where
    ended : (table : List ℕ) (n : ℕ) → unflagged_run (ends n (going s table none)) ≡ unflagged_run (ends n (going t table none))
    ended table n = ap (λ (x : State). record { events = []; number = n; left = going x table none }) alike

    pub trace-alike : (table : List ℕ) → unflagged_run (trace_lent image s table steps lent) ≡ unflagged_run (trace_lent image t table steps lent)
    unfolding trace_lent
    trace-alike table = by (accepted image table) refl
      where
        runs : (m : Model) → NoQueries m.rules → (w f : Bool)
            → unflagged_run
            (if not w then ends ill_formed (going s table none) else (if not f then ends bad_store (going s table none) else run_from m steps (going s table (store_of lent))))
            ≡ unflagged_run
            (if not w then ends ill_formed (going t table none) else (if not f then ends bad_store (going t table none) else run_from m steps (going t table (store_of lent))))
        runs m h false f = ended table ill_formed
        runs m h true false = ended table bad_store
        runs m h true true = run-alike m h steps s t table (store_of lent) alike

        by : (r : Read Model) → accepted image table ≡ r → unflagged_run (traced_by s table lent steps r) ≡ unflagged_run (traced_by t table lent steps r)
        by (read_refused n at) e = ended table n
        by (read_got m at) e =
            let d : decode image ≡ read_got m at = fitting-decodes image table m at e in
            rw (judged m at d) (runs m (bare m at d) (well_formed m t) (store_fits m.types lent))

    fresh-ended : (n : ℕ) → unflagged_fresh (ends n (moving s none)) ≡ unflagged_fresh (ends n (moving t none))
    fresh-ended n = ap (λ (x : State). record { events = []; number = n; left = moving x none }) alike

    pub fresh-trace-alike : unflagged_fresh (fresh_trace_lent image s steps lent) ≡ unflagged_fresh (fresh_trace_lent image t steps lent)
    unfolding fresh_trace_lent
    fresh-trace-alike = by (decode image) refl
      where
        runs : (m : Model) → NoQueries m.rules → (w f : Bool)
            → unflagged_fresh (if not w then ends ill_formed (moving s none) else (if not f then ends bad_store (moving s none) else fresh_from m steps (moving s (store_of lent))))
            ≡ unflagged_fresh (if not w then ends ill_formed (moving t none) else (if not f then ends bad_store (moving t none) else fresh_from m steps (moving t (store_of lent))))
        runs m h false f = fresh-ended ill_formed
        runs m h true false = fresh-ended bad_store
        runs m h true true = fresh-run-alike m h steps s t (store_of lent) alike

        by : (r : Read Model) → decode image ≡ r → unflagged_fresh (fresh_by s lent steps r) ≡ unflagged_fresh (fresh_by t lent steps r)
        by (read_refused n at) e = fresh-ended n
        by (read_got m at) e = rw (judged m at e) (runs m (bare m at e) (well_formed m t) (store_fits m.types lent))

  pub run-call-alike : (table : List ℕ) (steps lent : ℕ) (words : List ℕ) → unflagged_ran (run_lent image s table steps lent words) ≡ unflagged_ran (run_lent image t table steps lent words)
  unfolding run_lent
  run-call-alike table steps lent words =
      ap (λ (r : Run Going). record { answer = ran_by (place_of (accepted image table)) r; store = store_left words r.left.store }) (trace-alike steps (lent_by lent words) table)

  pub fresh-call-alike : (steps lent : ℕ) (words : List ℕ) → unflagged_fresh_ran (fresh_lent image s steps lent words) ≡ unflagged_fresh_ran (fresh_lent image t steps lent words)
  unfolding fresh_lent
  fresh-call-alike steps lent words =
      ap (λ (r : Run Moving). record { answer = fresh_ran_by (place_of (decode image)) r; store = store_left words r.left.store }) (fresh-trace-alike steps (lent_by lent words))

  pub refresh-call-alike : (mark : ℕ) (table : List ℕ) → refresh_of image s mark table ≡ refresh_of image t mark table
  unfolding refresh_of
  refresh-call-alike mark table = by (accepted image table) refl
    where
      by : (r : Read Model) → accepted image table ≡ r → refreshed_by s mark table r ≡ refreshed_by t mark table r
      by (read_refused n at) e = refl
      by (read_got m at) e =
          let d : decode image ≡ read_got m at = fitting-decodes image table m at e in
          rw (judged m at d, refresh-alike s t alike m.rules (bare m at d) mark table) refl

-- ---- two images that decode to one model: no call tells where an accepted image ends

module _ (image image' : List ℕ) (m : Model) (end end' : ℕ) (d : decode image ≡ read_got m end) (d' : decode image' ≡ read_got m end') where
  decoded-same : {X : Type 0} (f : Read Model → X) → f (read_got m end) ≡ f (read_got m end') → f (decode image) ≡ f (decode image')
  decoded-same f h = ap f d ∙ h ∙ sym (ap f d')

  accepted-same : {X : Type 0} (table : List ℕ) (f : Read Model → X) → f (read_got m end) ≡ f (read_got m end') → f (accepted image table) ≡ f (accepted image' table)
  unfolding accepted
  accepted-same table f h = decoded-same (λ r. f (fitting table r)) (by (eqb (length table) (9 * length m.rules)))
    where
      by : (t : Bool) → f (if t then read_got m end else read_refused wrong_table 0) ≡ f (if t then read_got m end' else read_refused wrong_table 0)
      by true = h
      by false = refl

  run-same : (s : State) (table : List ℕ) (steps lent : ℕ) (words : List ℕ) → run_lent image s table steps lent words ≡ run_lent image' s table steps lent words
  unfolding run_lent trace_lent
  run-same s table steps lent words =
      accepted-same table
      (λ r. let run : Run Going = traced_by s table (lent_by lent words) steps r in record { answer = ran_by (place_of r) run; store = store_left words run.left.store }) refl

  fresh-run-same : (s : State) (steps lent : ℕ) (words : List ℕ) → fresh_lent image s steps lent words ≡ fresh_lent image' s steps lent words
  unfolding fresh_lent fresh_trace_lent
  fresh-run-same s steps lent words =
      decoded-same (λ r. let run : Run Moving = fresh_by s (lent_by lent words) steps r in record { answer = fresh_ran_by (place_of r) run; store = store_left words run.left.store }) refl

  pub same-answers : SameAnswers image image'
  unfolding needed_of open_of trace_lent run_of refresh_of fresh_trace_lent fresh_of printed
  same-answers =
      record {
        needed = decoded-same needed_by refl;
        opened = λ table. accepted-same table (opened_by table) refl;
        run = run-same;
        traced = λ s table steps lent. accepted-same table (traced_by s table lent steps) refl;
        run_alone = λ s table steps. accepted-same table (λ r. ran_by (place_of r) (traced_by s table none steps r)) refl;
        refreshed = λ s mark table. accepted-same table (refreshed_by s mark table) refl;
        fresh_run = fresh-run-same;
        fresh_traced = λ s steps lent. decoded-same (fresh_by s lent steps) refl;
        fresh_alone = λ s steps. decoded-same (λ r. fresh_ran_by (place_of r) (fresh_by s none steps r)) refl;
        lines = decoded-same printed_by refl;
      }
