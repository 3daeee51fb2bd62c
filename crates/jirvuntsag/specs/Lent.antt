-- What the calls answer to which a store may be lent, for all that C could hand in; that this settles all; and a word too large for its field.
use Rattle.std.specs.Prelude.{if◌then◌else◌, ℕ, ◌≡◌, List, []}
use Rattle.std.proofs.Common.{sym, ap, ◌∙◌}
use Rattle.meaning.specs.Numbers.{ill_formed}
use Rattle.meaning.specs.Model.{Model}
use Rattle.meaning.specs.Read.{read_got}
use Rattle.meaning.specs.Image.{decode}
use Rattle.meaning.specs.Run.{Timed}
use Rattle.meaning.specs.Store.{lent_by}
use Rattle.meaning.specs.Calls.{accepted, WithStore, trace_lent, run_lent}
use Rattle.meaning.specs.Fresh.{fresh_trace_lent, fresh_lent}
use Rattle.step_note.specs.Events.{inscribed}
use Rattle.jirvuntsag.specs.Words.{state_of, fits}
use Rattle.jirvuntsag.specs.Told.{answer, unfit_answer, Told, told, told_run}
use Rattle.jirvuntsag.specs.Back.{TooLarge, unfit}
use Rattle.jirvuntsag.specs.Fresh.{FreshTold, fresh_told, told_fresh}

-- what a call leaves, and the words of the store beside it
abbrev pub told_with : {A : Type 0} → A → List ℕ → WithStore A
told_with a store = record { answer = a; store = store }

-- ---- the run with a table, and its events, none if it is refused

unfoldable pub run_lent_in : List ℕ → List ℕ → List ℕ → ℕ → ℕ → List ℕ → WithStore Told
run_lent_in image w table steps lent store =
    if fits w then told_with (told_run (run_lent image (state_of w) table steps lent store).answer) (run_lent image (state_of w) table steps lent store).store
    else told_with (told (unfit_answer (accepted image table)) w table) store

unfoldable pub lent_events_in : List ℕ → List ℕ → List ℕ → ℕ → ℕ → List ℕ → List Timed
lent_events_in image w table steps lent store = if fits w then (trace_lent image (state_of w) table steps (lent_by lent store)).events else []

-- ---- the run without one

unfoldable pub fresh_lent_in : List ℕ → List ℕ → ℕ → ℕ → List ℕ → WithStore FreshTold
fresh_lent_in image w steps lent store =
    if fits w then told_with (told_fresh (fresh_lent image (state_of w) steps lent store).answer) (fresh_lent image (state_of w) steps lent store).store
    else told_with (fresh_told (unfit_answer (decode image)) w) store

unfoldable pub fresh_lent_events_in : List ℕ → List ℕ → ℕ → ℕ → List ℕ → List Timed
fresh_lent_events_in image w steps lent store = if fits w then (fresh_trace_lent image (state_of w) steps (lent_by lent store)).events else []

-- ---- two results that meet the contract are the same: the answer, every word of the state, of the table and of the store

pub run-lent-once : (image state table : List ℕ) (steps lent : ℕ) (store : List ℕ) (a a' : ℕ) (w w' t t' s s' : List ℕ)
    → told_with (told a w t) s ≡ run_lent_in image state table steps lent store → told_with (told a' w' t') s' ≡ run_lent_in image state table steps lent store
    → (a ≡ a') × (w ≡ w') × (t ≡ t') × (s ≡ s')
run-lent-once image state table steps lent store a a' w w' t t' s s' p q =
    let same : told_with (told a w t) s ≡ told_with (told a' w' t') s' = p ∙ sym q in (
      ap (λ (o : WithStore Told). o.answer.answered) same,
      ap (λ (o : WithStore Told). o.answer.words) same,
      ap (λ (o : WithStore Told). o.answer.table) same,
      ap (λ (o : WithStore Told). o.store) same,
    )

pub fresh-lent-once : (image state : List ℕ) (steps lent : ℕ) (store : List ℕ) (a a' : ℕ) (w w' s s' : List ℕ)
    → told_with (fresh_told a w) s ≡ fresh_lent_in image state steps lent store → told_with (fresh_told a' w') s' ≡ fresh_lent_in image state steps lent store
    → (a ≡ a') × (w ≡ w') × (s ≡ s')
fresh-lent-once image state steps lent store a a' w w' s s' p q =
    let same : told_with (fresh_told a w) s ≡ told_with (fresh_told a' w') s' = p ∙ sym q in
    (ap (λ (o : WithStore FreshTold). o.answer.answered) same, ap (λ (o : WithStore FreshTold). o.answer.words) same, ap (λ (o : WithStore FreshTold). o.store) same)

-- and what they note, every word of it
pub lent-events-once : (image state table : List ℕ) (steps lent : ℕ) (store events noted noted' : List ℕ) → noted ≡ inscribed events 0 (lent_events_in image state table steps lent store)
    → noted' ≡ inscribed events 0 (lent_events_in image state table steps lent store) → noted ≡ noted'
lent-events-once image state table steps lent store events noted noted' p q = p ∙ sym q

pub fresh-lent-events-once : (image state : List ℕ) (steps lent : ℕ) (store events noted noted' : List ℕ) → noted ≡ inscribed events 0 (fresh_lent_events_in image state steps lent store)
    → noted' ≡ inscribed events 0 (fresh_lent_events_in image state steps lent store) → noted ≡ noted'
fresh-lent-events-once image state steps lent store events noted noted' p q = p ∙ sym q

-- ---- where the image is accepted, a word too large for its field makes the calls answer 6, count 0 and position 0, with all words as they were handed in, and no event

module _ (image w : List ℕ) (m : Model) (at : ℕ) (h : TooLarge w) (steps lent : ℕ) (store : List ℕ) where
  pub lent-words-back : (table : List ℕ) → accepted image table ≡ read_got m at
      → (run_lent_in image w table steps lent store ≡ told_with (told (answer ill_formed 0 0) w table) store) × (lent_events_in image w table steps lent store ≡ [])
  unfolding run_lent_in lent_events_in
  lent-words-back table e = (rw (unfit w h, e), rw (unfit w h))

  pub fresh-lent-words-back : decode image ≡ read_got m at
      → (fresh_lent_in image w steps lent store ≡ told_with (fresh_told (answer ill_formed 0 0) w) store) × (fresh_lent_events_in image w steps lent store ≡ [])
  unfolding fresh_lent_in fresh_lent_events_in
  fresh-lent-words-back e = (rw (unfit w h, e), rw (unfit w h))
