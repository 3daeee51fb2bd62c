-- The call without a table is the kept call with the fresh one, over any chain of calls too; and so its numbers and its transitions.
use Rattle.std.specs.Prelude.{if◌then◌else◌, ◌≡◌, ◌↔◌, ◌⊎◌, Bool, true, false, not, List, []}
use Rattle.std.proofs.Math.Path.{refl, sym}
use Rattle.std.proofs.Common.{ap, ap₂, subst, ◌∙◌, inl, inr, ⊎_elim, arith}
use Rattle.std.proofs.Math.Option.{Option, none, some}
use Prim.Native.Nat.{ℕ, zero, suc, ◌*◌, ◌≤◌, ◌<◌}
use borrow.Author.Tests.{eq-eqb}
use Rattle.std.proofs.Math.ListN.{length}
use Rattle.meaning.specs.declared.State.{State}
use Rattle.meaning.specs.Numbers.{ill_formed, bad_store}
use Rattle.meaning.specs.Model.{Model, Chunk}
use Rattle.meaning.specs.State.{well_formed}
use Rattle.meaning.specs.Read.{Read, read_refused, read_got}
use Rattle.meaning.specs.Image.{decode}
use Rattle.meaning.specs.Match.{fresh_table}
use Rattle.meaning.specs.Step.{Event, step_made, largest}
use Rattle.meaning.specs.Run.{Going, going, Timed, Run, ends, run_from}
use Rattle.meaning.specs.Learning.{knowing, store_after, overfull, step_with}
use Rattle.meaning.specs.Store.{store_fits, store_of}
use Rattle.meaning.specs.Calls.{accepted, place_of, open_of, trace_lent, ran_by}
use Rattle.meaning.specs.Fresh.{stays, moves, Moving, moving, move_with, fresh_from}
use Rattle.meaning.specs.Fresh.{fresh_by, fresh_trace_lent, FreshRan, fresh_ran_by}
use Rattle.laws.specs.BaseLaws.{no_true}
use Rattle.laws.specs.MatchLaws.{fresh-length}
use Rattle.promises.specs.Words.{Reached, opened, ran, refreshed, changed, alone, AsKept, ran_lent, fresh_ran_lent, answer_of}
use Rattle.promises.specs.Published.{Transition, HasRoom, Transitions, no_step, one-step, Crowds, Ended, done, full, over, crowded, Follows}
use Rattle.promises.specs.Sentences.{Beforehand, GivenBare, refused, read, AfterFresh, unsound, unfitting, moved}
use Rattle.promises.proofs.Proofs.Decoded.{RulesGood, good-known, decoded}
use Rattle.promises.proofs.Proofs.Knowing.{Unmade, as-known, crowding, made-with, stopped-with}
use Rattle.promises.proofs.Proofs.Storing.{onward, stores-once, room-had, room-missed}
use Rattle.promises.proofs.Proofs.Runs.{chain-fresh}
use Rattle.promises.proofs.Proofs.Outcomes.{transition-made, passes-full, final-halt, freshly, known_step, known_step_lem, run-goes, transitions-once}
use Rattle.promises.proofs.Proofs.Numbers.{refused-unread, unread-range, exactly-bare}
pub use Rattle.promises.proofs.Proofs.AfreshRun.{choice-fresh, Same, both-stop, both-move, same_step, moves-exactly, stays-exactly, run-as-kept}
pub use Rattle.promises.proofs.Proofs.AfreshRefuses.{fresh-refuses}
use Rattle.promises.proofs.Proofs.AfreshRun.{same-moves, same-stays, same-with, at_once, alike-answers}

module _ (image : List ℕ) (s : State) (steps : ℕ) (lent : Option (List ℕ)) where
  module _ (n at : ℕ) (d : decode image ≡ read_refused n at) where
    pub kept-refuses : (table : List ℕ) → trace_lent image s table steps lent ≡ ends n (going s table none)
    unfolding trace_lent accepted
    kept-refuses table = rw d refl

    pub both-refuse : (table : List ℕ) → (ran_lent image s table steps lent ≡ record { number = n; position = at; state = s; table = table; made = 0 })
        × (fresh_ran_lent image s steps lent ≡ record { number = n; position = at; state = s; made = 0 })
    unfolding accepted
    both-refuse table = (rw d (ap (ran_by at) (kept-refuses table)), rw d (ap (fresh_ran_by at) (fresh-refuses image s steps lent n at d)))

    pub both-silent : (table : List ℕ) → ((trace_lent image s table steps lent).events ≡ []) × ((fresh_trace_lent image s steps lent).events ≡ [])
    both-silent table = (ap (λ (r : Run Going). r.events) (kept-refuses table), ap (λ (r : Run Moving). r.events) (fresh-refuses image s steps lent n at d))

  module _ (m : Model) (end : ℕ) (d : decode image ≡ read_got m end) where
    pub call-as-kept : AsKept (trace_lent image s (fresh_table m.rules s) steps lent) (fresh_trace_lent image s steps lent)
    unfolding trace_lent fresh_trace_lent accepted
    call-as-kept = rw (d, eq-eqb (length (fresh_table m.rules s)) (9 * length m.rules) (fresh-length m.rules s)) (by (not (well_formed m s)) (not (store_fits m.types lent)))
      where
        g : Moving
        g = moving s (store_of lent)

        by : (t u : Bool) → AsKept (if t then ends ill_formed (freshly m (alone s)) else (if u then ends bad_store (freshly m (alone s)) else run_from m steps (freshly m g)))
            (if t then ends ill_formed (alone s) else (if u then ends bad_store (alone s) else fresh_from m steps g))
        by true u = at_once
        by false true = at_once
        by false false = run-as-kept m steps g

    -- neither has a position to tell
    same_place : place_of (accepted image (fresh_table m.rules s)) ≡ place_of (decode image)
    unfolding accepted
    same_place = rw (d, eq-eqb (length (fresh_table m.rules s)) (9 * length m.rules) (fresh-length m.rules s)) refl

    pub answers-as-kept : fresh_ran_lent image s steps lent ≡ answer_of (ran_lent image s (fresh_table m.rules s) steps lent)
    answers-as-kept =
        alike-answers call-as-kept (place_of (decode image))
        ∙ ap (λ (at : ℕ). answer_of (ran_by at (trace_lent image s (fresh_table m.rules s) steps lent))) (sym same_place)

-- ---- a chain of calls is over an accepted image

record Accepted (image : List ℕ) : Type 0 where
  model : Model
  end : ℕ
  reads : decode image ≡ read_got model end

opened-accepted : (image table : List ℕ) → (open_of image table).number ≡ 0 → Accepted image
unfolding open_of accepted
opened-accepted image table e = by (decode image) refl
  where
    by : (r : Read Model) → decode image ≡ r → Accepted image
    by (read_refused n at) d = let z : n ≡ 0 = rw d at e in absurd (omega (arith, (unread-range image (refused-unread image n at d)).0))
    by (read_got m end) d = record { model = m; end = end; reads = d }

reached-accepted : {image : List ℕ} {s : State} {table : List ℕ} → Reached image s table → Accepted image
reached-accepted {image} (opened table e) = opened-accepted image table e
reached-accepted (ran r steps lent words) = reached-accepted r
reached-accepted (refreshed r mark) = reached-accepted r
reached-accepted (changed r s' mark k same e) = reached-accepted r

module _ {image : List ℕ} {s : State} {table : List ℕ} (r : Reached image s table) (steps : ℕ) (lent : Option (List ℕ)) where
  pub reached-as-kept : AsKept (trace_lent image s table steps lent) (fresh_trace_lent image s steps lent)
  reached-as-kept =
      let a = reached-accepted r in
      rw (chain-fresh image a.model a.end a.reads r) (call-as-kept image s steps lent a.model a.end a.reads)

  pub reached-answers : fresh_ran_lent image s steps lent ≡ answer_of (ran_lent image s table steps lent)
  reached-answers =
      let a = reached-accepted r in
      rw (chain-fresh image a.model a.end a.reads r) (answers-as-kept image s steps lent a.model a.end a.reads)

-- ---- the transitions of the published semantics

module _ (m : Model) (d : RulesGood m) where
  run-path : (n : ℕ) (g : Moving) → Transitions m (fresh_from m n g).events g (fresh_from m n g).left
  run-path n g = let a = run-as-kept m n g in rw (a.same_events, ap₂ moving a.same_state a.same_store) (run-goes m d n g).path

  run-ended : (n : ℕ) (g : Moving) → Ended m n (length (fresh_from m n g).events) (fresh_from m n g).left (fresh_from m n g).number
  run-ended n g = let a = run-as-kept m n g in rw (a.same_events, ap₂ moving a.same_state a.same_store, a.same_number) (run-goes m d n g).ended

  -- a step with the fresh table that is made, or not, is so without one
  moves-with : (g : Moving) (e : Event) (s' : State) (mark : ℕ) → step_with m g.store g.state (fresh_table m.rules g.state) ≡ step_made e s' mark
      → move_with m g.store g.state ≡ moves e s'
  moves-with g e s' mark q = (same-moves (same-with m g.store g.state) e s').1 (mark, q)

  stays-with : (g : Moving) (n : ℕ) → Unmade m g.store g.state (known_step m g) n → move_with m g.store g.state ≡ stays n
  stays-with g n u = (same-stays (same-with m g.store g.state) n).1 (stopped-with m g.store g.state (fresh_table m.rules g.state) u)

  -- a transition within the clock, whose facts have room, is the step that is made
  goes_by : {e : Event} (g : Moving) {s' : State} → Transition (knowing m g.store) g.state e s' → s'.clock ≤ largest → overfull (onward m g e s').store ≡ false
      → move_with m g.store g.state ≡ moves e s'
  goes_by {e} g {s'} t c o =
      let k = transition-made (knowing m g.store) (good-known m d g.store) g.state e s' t c in
      moves-with g e s' k.0 (made-with m g.store g.state (fresh_table m.rules g.state) e s' k.0 (known_step_lem m g ∙ k.1) o)

  none-asked : {made number : ℕ} {g : Moving} → Ended m zero (suc made) g number → ⊥
  none-asked (done e) = omega arith
  none-asked (full l p) = omega arith
  none-asked (over l p) = omega arith
  none-asked (crowded l p) = omega arith

  shorter : {asked made number : ℕ} {g : Moving} → Ended m (suc asked) (suc made) g number → Ended m asked made g number
  shorter (done e) = done (omega arith)
  shorter (full l p) = full (omega arith) p
  shorter (over l p) = over (omega arith) p
  shorter (crowded l p) = crowded (omega arith) p

  -- where a path ends, the run does
  ends_by : {es : List Timed} {g g' : Moving} → Transitions m es g g' → (asked : ℕ) {number : ℕ} → Ended m asked (length es) g' number → (fresh_from m asked g).number ≡ number
  unfolding fresh_from
  ends_by no_step zero (done e) = refl
  ends_by no_step zero (full l p) = absurd (omega arith)
  ends_by no_step zero (over l p) = absurd (omega arith)
  ends_by no_step zero (crowded l p) = absurd (omega arith)
  ends_by no_step (suc k) (done e) = absurd (omega arith)
  ends_by (no_step {g}) (suc k) (full l p) =
      rw (stays-with g 8 (as-known (known_step_lem m g ∙ passes-full (knowing m g.store) (good-known m d g.store) g.state p))) refl
  ends_by (no_step {g}) (suc k) (over l p) =
      rw (stays-with g 9 (as-known (known_step_lem m g ∙ final-halt (knowing m g.store) (good-known m d g.store) g.state p))) refl
  ends_by (no_step {g}) (suc k) (crowded l p) =
      let t = transition-made (knowing m g.store) (good-known m d g.store) g.state p.event p.state p.transition p.in_time in
      rw (stays-with g 14 (crowding (known_step_lem m g ∙ t.1) (room-missed (stores-once p.stores) p.too_many))) refl
  ends_by (one-step t c o r rest) zero h = absurd (none-asked h)
  ends_by (one-step {e} {g = g} {s' = s'} {store' = after} t c o r rest) (suc k) {number} h =
      let q : after ≡ (onward m g e s').store = sym (stores-once o) in
      rw (goes_by g t c (room-had (onward m g e s').store (subst HasRoom q r)))
      (subst (λ (x : Option (List Chunk)). (fresh_from m k (moving s' x)).number ≡ number) q (ends_by rest k (shorter h)))

-- 0, 8 or 9, or 14
pub ended-number : {m : Model} {asked made n : ℕ} {g : Moving} → Ended m asked made g n → (n ≡ 0) ⊎ ((n ≡ 8) ⊎ ((n ≡ 9) ⊎ (n ≡ 14)))
ended-number (done e) = inl refl
ended-number (full l p) = inr (inl refl)
ended-number (over l p) = inr (inr (inl refl))
ended-number (crowded l p) = inr (inr (inr refl))

-- where nothing is lent, 14 is not
none-crowds : (m : Model) (g : Moving) → g.store ≡ none → Crowds m g → ⊥
none-crowds m g q c = let e : none ≡ some c.after = sym (ap (store_after m g.state c.event) q) ∙ stores-once c.stores in let z : ◌≡◌ {A = ℕ} 0 1 = cc in omega arith

-- nor along a path
pub stays-alone : {m : Model} {es : List Timed} {g g' : Moving} → Transitions m es g g' → g.store ≡ none → g'.store ≡ none
stays-alone no_step q = q
stays-alone {m} (one-step {e} {g = g} t c o r rest) q = stays-alone rest (sym (stores-once o) ∙ ap (store_after m g.state e) q)

pub ended-alone : {m : Model} {asked made n : ℕ} {g : Moving} → g.store ≡ none → Ended m asked made g n → (n ≡ 0) ⊎ ((n ≡ 8) ⊎ (n ≡ 9))
ended-alone q (done e) = inl refl
ended-alone q (full l p) = inr (inl refl)
ended-alone q (over l p) = inr (inr refl)
ended-alone {m} {g = g} q (crowded l p) = absurd (none-crowds m g q p)

-- which numbers there are
data Number : ℕ → Type 0 where
  of_image : {n : ℕ} → 0 < n → (n < 5) ⊎ ((10 < n) × (n < 14)) → Number n
  of-state : Number 6
  of_steps : {n : ℕ} → (n ≡ 0) ⊎ ((n ≡ 8) ⊎ (n ≡ 9)) → Number n

-- 5, 7 and 10 are none of them
none_other : (n : ℕ) → Number n → (n ≡ 5 → ⊥) × (n ≡ 7 → ⊥) × (n ≡ 10 → ⊥) × (n < 14)
none_other n (of_image a (inl b)) = (λ e. omega arith, λ e. omega arith, λ e. omega arith, omega arith)
none_other n (of_image a (inr b)) = (λ e. omega (arith, b.0), λ e. omega (arith, b.0), λ e. omega (arith, b.0), b.1)
none_other n of-state = (λ e. omega arith, λ e. omega arith, λ e. omega arith, omega arith)
none_other n (of_steps (inl q)) = (λ e. omega arith, λ e. omega arith, λ e. omega arith, omega arith)
none_other n (of_steps (inr (inl q))) = (λ e. omega arith, λ e. omega arith, λ e. omega arith, omega arith)
none_other n (of_steps (inr (inr q))) = (λ e. omega arith, λ e. omega arith, λ e. omega arith, omega arith)

module _ (image : List ℕ) (s : State) (lent : Option (List ℕ)) (asked : ℕ) where
  -- by whether the state is well formed, and the words that are lent fit
  abbrev runs : Model → Bool → Bool → Run Moving
  runs m t u = if not t then ends ill_formed (alone s) else (if not u then ends bad_store (alone s) else fresh_from m asked (moving s (store_of lent)))

  well-traced : (m : Model) (end : ℕ) → decode image ≡ read_got m end → well_formed m s ≡ true → store_fits m.types lent ≡ true
      → fresh_trace_lent image s asked lent ≡ fresh_from m asked (moving s (store_of lent))
  unfolding fresh_trace_lent
  well-traced m end e w f = rw (e, w, f) refl

  pub follows : (m : Model) (end : ℕ) → decode image ≡ read_got m end → well_formed m s ≡ true → store_fits m.types lent ≡ true
      → let r : Run Moving = fresh_trace_lent image s asked lent in Follows m (moving s (store_of lent)) asked r.events r.left (length r.events) r.number
  follows m end e w f =
      let d : RulesGood m = (decoded image m end e).rules_good in
      let g : Moving = moving s (store_of lent) in
      rw (well-traced m end e w f) (record {
        path = run-path m d asked g;
        counted = refl;
        no_other = λ es g'' p l. transitions-once m d p (run-path m d asked g) l;
        ended = run-ended m d asked g;
      })

  -- ---- the numbers

  row : (m : Model) (end : ℕ) → decode image ≡ read_got m end → (n : ℕ) → ((fresh_by s lent asked (read_got m end)).number ≡ n) ↔ AfterFresh s lent asked m n
  row m end e n = (there (well_formed m s) (store_fits m.types lent) refl refl, back)
    where
      d : RulesGood m
      d = (decoded image m end e).rules_good

      there : (t u : Bool) → well_formed m s ≡ t → store_fits m.types lent ≡ u → (runs m t u).number ≡ n → AfterFresh s lent asked m n
      there true true w f q = subst (AfterFresh s lent asked m) q (let g : Moving = moving s (store_of lent) in moved w f (run-path m d asked g) (run-ended m d asked g))
      there true false w f q = subst (AfterFresh s lent asked m) q (unfitting w f)
      there false u w f q = subst (AfterFresh s lent asked m) q (unsound w)

      back : {k : ℕ} → AfterFresh s lent asked m k → (fresh_by s lent asked (read_got m end)).number ≡ k
      back (unsound w) = rw w refl
      back (unfitting w f) = rw (w, f) refl
      back (moved w f path by) = rw (w, f) (ends_by m d path asked by)

  pub number-exactly : (n : ℕ) → ((fresh_ran_lent image s asked lent).number ≡ n) ↔ GivenBare image (AfterFresh s lent asked) n
  unfolding fresh_trace_lent
  number-exactly n = exactly-bare image (λ r. (fresh_by s lent asked r).number) (AfterFresh s lent asked) (λ k at. refl) row n

  refused-left : (r : Read Model) → decode image ≡ r → let t : Run Moving = fresh_by s lent asked r in Beforehand t.number → t ≡ ends t.number (alone s)
  refused-left (read_refused n at) e b = refl
  refused-left (read_got m end) e b = by (well_formed m s) (store_fits m.types lent) b
    where
      late : (n : ℕ) → (n ≡ 0) ⊎ ((n ≡ 8) ⊎ ((n ≡ 9) ⊎ (n ≡ 14))) → Beforehand n → ⊥
      late n (inl q) h = omega (arith, h.0)
      late n (inr (inl q)) h = ⊎_elim (λ (l : n < 7). omega arith) (λ (l : 9 < n). omega arith) h.1
      late n (inr (inr (inl q))) h = ⊎_elim (λ (l : n < 7). omega arith) (λ (l : 9 < n). omega arith) h.1
      late n (inr (inr (inr q))) h = h.2 q

      by : (t u : Bool) → Beforehand (runs m t u).number → runs m t u ≡ ends (runs m t u).number (alone s)
      by true true h =
          let g : Moving = moving s (store_of lent) in absurd (late (fresh_from m asked g).number (ended-number (run-ended m (decoded image m end e).rules_good asked g)) h)
      by true false h = refl
      by false u h = refl

  pub left-refused : Beforehand (fresh_ran_lent image s asked lent).number → fresh_trace_lent image s asked lent ≡ ends (fresh_ran_lent image s asked lent).number (alone s)
  unfolding fresh_trace_lent
  left-refused b = refused-left (decode image) refl b

  pub call-refused : Beforehand (fresh_ran_lent image s asked lent).number
      → let a : FreshRan = fresh_ran_lent image s asked lent in a ≡ record { number = a.number; position = a.position; state = s; made = 0 }
  call-refused b = ap (fresh_ran_by (place_of (decode image))) (left-refused b)

  -- with a store: 15 besides, and 14
  pub lent_never : let n : ℕ = (fresh_ran_lent image s asked lent).number in (n ≡ 5 → ⊥) × (n ≡ 7 → ⊥) × (n ≡ 10 → ⊥) × (n < 16)
  lent_never = let n : ℕ = (fresh_ran_lent image s asked lent).number in by n ((number-exactly n).0 refl)
    where
      below : (n : ℕ) → (n ≡ 5 → ⊥) × (n ≡ 7 → ⊥) × (n ≡ 10 → ⊥) × (n < 14) → (n ≡ 5 → ⊥) × (n ≡ 7 → ⊥) × (n ≡ 10 → ⊥) × (n < 16)
      below n h = (h.0, h.1, h.2, omega (arith, h.3))

      by_end : (n : ℕ) → (n ≡ 0) ⊎ ((n ≡ 8) ⊎ ((n ≡ 9) ⊎ (n ≡ 14))) → (n ≡ 5 → ⊥) × (n ≡ 7 → ⊥) × (n ≡ 10 → ⊥) × (n < 16)
      by_end n (inl q) = (λ e. omega arith, λ e. omega arith, λ e. omega arith, omega arith)
      by_end n (inr (inl q)) = (λ e. omega arith, λ e. omega arith, λ e. omega arith, omega arith)
      by_end n (inr (inr (inl q))) = (λ e. omega arith, λ e. omega arith, λ e. omega arith, omega arith)
      by_end n (inr (inr (inr q))) = (λ e. omega arith, λ e. omega arith, λ e. omega arith, omega arith)

      by : (n : ℕ) → GivenBare image (AfterFresh s lent asked) n → (n ≡ 5 → ⊥) × (n ≡ 7 → ⊥) × (n ≡ 10 → ⊥) × (n < 16)
      by n (refused u) = let r = unread-range image u in below n (none_other n (of_image r.0 r.1))
      by n (read h e (unsound w)) = (λ e. omega arith, λ e. omega arith, λ e. omega arith, omega arith)
      by n (read h e (unfitting w f)) = (λ e. omega arith, λ e. omega arith, λ e. omega arith, omega arith)
      by n (read h e (moved w f path q)) = by_end n (ended-number q)

-- ---- where nothing is lent

module _ (image : List ℕ) (s : State) (asked : ℕ) where
  pub number-taken : (m : Model) (end : ℕ) → decode image ≡ read_got m end → well_formed m s ≡ true
      → let n : ℕ = (fresh_ran_lent image s asked none).number in (n ≡ 0) ⊎ ((n ≡ 8) ⊎ (n ≡ 9))
  unfolding store_fits
  number-taken m end e w = let h = follows image s none asked m end e w refl in ended-alone (stays-alone h.path refl) h.ended

  given-number : (n : ℕ) → GivenBare image (AfterFresh s none asked) n → Number n
  unfolding store_fits
  given-number n (refused u) = let r = unread-range image u in of_image r.0 r.1
  given-number n (read h e (unsound w)) = of-state
  given-number n (read h e (unfitting w f)) = absurd (no_true f)
  given-number n (read h e (moved w f path by)) = of_steps (ended-alone (stays-alone path refl) by)

  pub number-never : let n : ℕ = (fresh_ran_lent image s asked none).number in (n ≡ 5 → ⊥) × (n ≡ 7 → ⊥) × (n ≡ 10 → ⊥) × (n < 14)
  number-never = let n : ℕ = (fresh_ran_lent image s asked none).number in none_other n (given-number n ((number-exactly image s none asked n).0 refl))
