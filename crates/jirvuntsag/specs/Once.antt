-- The contract of each call for C settles all that it gives back: the answer, every word of the state and of the table, and of the events.
use Rattle.std.specs.Prelude.{◌≡◌, List, ℕ}
use Rattle.std.proofs.Common.{sym, ap, ◌∙◌}
use Rattle.step_note.specs.Events.{inscribed}
use Rattle.jirvuntsag.specs.Told.{Told, told, length_in, open_in, run_in, refresh_in, events_in}

-- two results that tell the same: their answers, words and tables are the same
told-once : (x : Told) (a a' : ℕ) (w w' t t' : List ℕ) → told a w t ≡ x → told a' w' t' ≡ x → (a ≡ a') × (w ≡ w') × (t ≡ t')
told-once x a a' w w' t t' p q =
    let same : told a w t ≡ told a' w' t' = p ∙ sym q in
    (ap (λ (o : Told). o.answered) same, ap (λ (o : Told). o.words) same, ap (λ (o : Told). o.table) same)

module _ (image : List ℕ) where
  pub table-len-once : (a a' : ℕ) → a ≡ length_in image → a' ≡ length_in image → a ≡ a'
  table-len-once a a' p q = p ∙ sym q

  pub open-once : (table : List ℕ) (a a' : ℕ) (w w' t t' : List ℕ)
      → told a w t ≡ open_in image table → told a' w' t' ≡ open_in image table → (a ≡ a') × (w ≡ w') × (t ≡ t')
  open-once table = told-once (open_in image table)

  pub run-once : (state table : List ℕ) (steps : ℕ) (a a' : ℕ) (w w' t t' : List ℕ)
      → told a w t ≡ run_in image state table steps → told a' w' t' ≡ run_in image state table steps → (a ≡ a') × (w ≡ w') × (t ≡ t')
  run-once state table steps = told-once (run_in image state table steps)

  pub events-once : (state table : List ℕ) (steps : ℕ) (events noted noted' : List ℕ)
      → noted ≡ inscribed events 0 (events_in image state table steps) → noted' ≡ inscribed events 0 (events_in image state table steps) → noted ≡ noted'
  events-once state table steps events noted noted' p q = p ∙ sym q

  pub refresh-once : (state : List ℕ) (mark : ℕ) (table : List ℕ) (a a' : ℕ) (w w' t t' : List ℕ)
      → told a w t ≡ refresh_in image state mark table → told a' w' t' ≡ refresh_in image state mark table → (a ≡ a') × (w ≡ w') × (t ≡ t')
  refresh-once state mark table = told-once (refresh_in image state mark table)
