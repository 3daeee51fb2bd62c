-- Runs to which a store may be lent, over words: where none is they are the others; and what they leave of the store.
use Rattle.std.specs.Prelude.{◌≡◌, refl, true, false, ℕ, ◌≤◌, get_or}
use Rattle.std.proofs.Math.Path.{sym, ap, subst}
use Rattle.std.proofs.Common.{ap₂, ◌∙◌}
use mathlib.Core.List.{List, []}
use Rattle.std.proofs.Math.Option.{Option, none, some}
use Rattle.std.proofs.Math.ListN.{length}
use Rattle.meaning.specs.Base.{bit}
use Rattle.meaning.specs.Model.{Model, Chunk}
use Rattle.meaning.specs.State.{well_formed}
use Rattle.meaning.specs.Read.{read_got}
use Rattle.meaning.specs.Image.{decode}
use Rattle.meaning.specs.Step.{largest}
use Rattle.meaning.specs.Store.{lent_by, store_fits, store_of}
use Rattle.meaning.specs.Run.{Timed}
use Rattle.meaning.specs.Calls.{Ran, WithStore, trace_lent, run_lent}
use Rattle.meaning.specs.Fresh.{moving, fresh_trace_lent, FreshRan, fresh_lent}
use Rattle.jirvuntsag.specs.Words.{state_of, fits}
use Rattle.jirvuntsag.specs.Told.{Told, run_in, events_in}
use Rattle.jirvuntsag.specs.Fresh.{FreshTold, fresh_in, fresh_events_in}
use Rattle.jirvuntsag.specs.Lent.{told_with, run_lent_in, lent_events_in, fresh_lent_in, fresh_lent_events_in}
use Rattle.laws.specs.MatchLaws.{fresh-length}
use Rattle.promises.specs.Words.{OnlyGrows, Grows}
use Rattle.promises.specs.Published.{RanOn, Follows}
use Rattle.promises.specs.Sentences.{Taken}
use Rattle.promises.proofs.Numbers.{accepted-taken}
use Rattle.promises.proofs.Keeping.{reached-fresh, reached-well, reached-machine}
use Rattle.promises.proofs.Fresh.{fresh-lent-published}
use Rattle.promises.proofs.Remembering as remembering
use Rattle.promises.proofs.Proofs.Remembered.{words-stay}
use Rattle.promises_c.specs.Handing.{ran_in, fresh_ran_in, Held, ran}
use Rattle.promises_c.proofs.Proofs.Back.{state-fits}
use Rattle.promises_c.proofs.Proofs.Calling.{by_fits, told_by, events_by, run-told, run-noted, lent-told, lent-noted, fit-store, unfit-store, Stands, held-stands}
use Rattle.promises_c.proofs.Proofs.Calling as calling
use Rattle.promises_c.proofs.Proofs.Alike.{free_by, free_events, free-told, free-noted, lent-free, lent-free-noted, fit-free-store, unfit-free-store, fit-fresh-events}
use Rattle.promises_c.proofs.Proofs.Alone.{lent_back}

module _ (image w : List ℕ) (steps lent : ℕ) (store : List ℕ) where
  -- ---- nothing lent

  module _ (unlent : bit lent 0 ≡ false) where
    gone : lent_by lent store ≡ none
    gone = rw unlent refl

    pub not-lent : (table : List ℕ) → run_lent_in image w table steps lent store ≡ told_with (run_in image w table steps) store
    not-lent table =
        ap₂ (λ (x : Told) (y : List ℕ). told_with x y)
        (lent-told image w table steps lent store ∙ ap (told_by image w table steps) gone ∙ sym (run-told image w table steps))
        (by_fits w
        (λ f. fit-store image w table steps lent store f ∙ ap (λ (x : WithStore Ran). x.store) (remembering.nothing_lent image (state_of w) steps lent store unlent table))
        (λ f. unfit-store image w table steps lent store f))

    pub not_noted : (table : List ℕ) → lent_events_in image w table steps lent store ≡ events_in image w table steps
    not_noted table = lent-noted image w table steps lent store ∙ ap (events_by image w table steps) gone ∙ sym (run-noted image w table steps)

    pub fresh-not-lent : fresh_lent_in image w steps lent store ≡ told_with (fresh_in image w steps) store
    fresh-not-lent =
        ap₂ (λ (x : FreshTold) (y : List ℕ). told_with x y)
        (lent-free image w steps lent store ∙ ap (free_by image w steps) gone ∙ sym (free-told image w steps))
        (by_fits w
        (λ f. fit-free-store image w steps lent store f ∙ ap (λ (x : WithStore FreshRan). x.store) (remembering.fresh-nothing-lent image (state_of w) steps lent store unlent))
        (λ f. unfit-free-store image w steps lent store f))

    pub fresh-not-noted : fresh_lent_events_in image w steps lent store ≡ fresh_events_in image w steps
    fresh-not-noted = lent-free-noted image w steps lent store ∙ ap (free_events image w steps) gone ∙ sym (free-noted image w steps)

  -- ---- the words of the store

  module _ (clock : get_or w 0 0 ≤ largest) where
    pub only-grows : (table : List ℕ) → OnlyGrows store (run_lent_in image w table steps lent store).store
    only-grows table =
        by_fits w
        (λ f. rw (fit-store image w table steps lent store f) (remembering.only-grows image (state_of w) steps lent store (state-fits w f clock) table))
        (λ f. rw (unfit-store image w table steps lent store f) (words-stay store))

    pub fresh-only-grows : OnlyGrows store (fresh_lent_in image w steps lent store).store
    fresh-only-grows =
        by_fits w
        (λ f. rw (fit-free-store image w steps lent store f) (remembering.fresh-only-grows image (state_of w) steps lent store (state-fits w f clock)))
        (λ f. rw (unfit-free-store image w steps lent store f) (words-stay store))

    module _ (f : fits w ≡ true) (given : bit lent 0 ≡ true) (m : Model) (well : well_formed m (state_of w) ≡ true) (taken : store_fits m.types (some store) ≡ true) where
      pub learns : (table : List ℕ) → Taken image table m → Grows m store (run_lent_in image w table steps lent store).store
      learns table t =
          rw (fit-store image w table steps lent store f) (remembering.learns image (state_of w) steps lent store (state-fits w f clock) given table m t well taken)

      pub fresh-learns : (end : ℕ) → decode image ≡ read_got m end → Grows m store (fresh_lent_in image w steps lent store).store
      fresh-learns end d =
          rw (fit-free-store image w steps lent store f) (remembering.fresh-learns image (state_of w) steps lent store (state-fits w f clock) given m end d well taken)

-- a run with nothing lent is one of the chain
pub held-ran : (image : List ℕ) {w table : List ℕ} → Held image w table → (steps : ℕ) → Held image (run_in image w table steps).words (run_in image w table steps).table
held-ran image {w} {table} h steps =
    subst (λ (x : WithStore Told). Held image x.answer.words x.answer.table) (not-lent image w steps 0 [] refl table) (ran h steps 0 [])

-- ---- the store that a run leaves stands in the words that it leaves

module _ (image : List ℕ) (m : Model) (end : ℕ) (d : decode image ≡ read_got m end) where
  pub held-lent-run : (w table : List ℕ) → Held image w table → (steps lent : ℕ) (store : List ℕ) → steps ≤ 65535 → store_fits m.types (lent_by lent store) ≡ true
      → let a : WithStore Told = run_lent_in image w table steps lent store in
      RanOn m (moving (state_of w) (store_of (lent_by lent store))) steps (lent_events_in image w table steps lent store) (ran_in a.answer) (store_of (lent_by lent a.store))
  unfolding run_lent
  held-lent-run w table h steps lent store few f =
      let a : WithStore Told = run_lent_in image w table steps lent store in
      let s : Stands image w table = held-stands image m end d h in
      let r = s.reached in
      let taken : Taken image table m = accepted-taken image table m end d (ap length (reached-fresh image m end d r) ∙ fresh-length m.rules (state_of w)) in
      let e = remembering.reads-back image (state_of w) steps lent store (reached-machine image m end d r) m (reached-well image m end d r) f table taken in
      let q : (trace_lent image (state_of w) table steps (lent_by lent store)).left.store ≡ store_of (lent_by lent a.store) =
      sym e ∙ ap (λ (x : List ℕ). store_of (lent_by lent x)) (sym (fit-store image w table steps lent store s.fit)) in
      subst (RanOn m (moving (state_of w) (store_of (lent_by lent store))) steps (lent_events_in image w table steps lent store) (ran_in a.answer)) q
      (calling.held-lent-run image m end d w table h steps lent store few f)

  -- ---- the same of a run without a table

  pub fresh-lent-follows : (w : List ℕ) (steps lent : ℕ) (store : List ℕ) → fits w ≡ true → get_or w 0 0 ≤ largest → steps ≤ 65535 → well_formed m (state_of w) ≡ true
      → store_fits m.types (lent_by lent store) ≡ true → let a : WithStore FreshTold = fresh_lent_in image w steps lent store in let r : FreshRan = fresh_ran_in a.answer in
      Follows m (moving (state_of w) (store_of (lent_by lent store))) steps (fresh_lent_events_in image w steps lent store) (moving r.state (store_of (lent_by lent a.store))) r.made r.number
  unfolding fresh_lent
  fresh-lent-follows w steps lent store f c few well fit' =
      let o : Option (List ℕ) = lent_by lent store in
      let q : (fresh_trace_lent image (state_of w) steps o).left.store ≡ store_of (lent_by lent (fresh_lent_in image w steps lent store).store) =
      sym (remembering.fresh-reads-back image (state_of w) steps lent store (state-fits w f c) m well fit' end d)
      ∙ ap (λ (x : List ℕ). store_of (lent_by lent x)) (sym (fit-free-store image w steps lent store f)) in
      let e : (fresh_trace_lent image (state_of w) steps o).events ≡ fresh_lent_events_in image w steps lent store =
      sym (lent-free-noted image w steps lent store ∙ fit-fresh-events image w steps o f) in
      let Told-by : List Timed → FreshRan → Option (List Chunk) → Type 0 = λ es r x. Follows m (moving (state_of w) (store_of o)) steps es (moving r.state x) r.made r.number in
      subst (λ (es : List Timed). Told-by es (fresh_ran_in (fresh_lent_in image w steps lent store).answer) (store_of (lent_by lent (fresh_lent_in image w steps lent store).store))) e
      (subst (λ (r : FreshRan). Told-by (fresh_trace_lent image (state_of w) steps o).events r (store_of (lent_by lent (fresh_lent_in image w steps lent store).store)))
      (sym (lent_back image w steps lent store f c few))
      (subst (Told-by (fresh_trace_lent image (state_of w) steps o).events (fresh_lent image (state_of w) steps lent store).answer) q
      (fresh-lent-published image (state_of w) steps lent store m end d well fit')))
