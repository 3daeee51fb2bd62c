-- A call's contract settles all that it gives back: two results that keep it are the same, each word of the table among them.
use Rattle.std.specs.Prelude.{◌≡◌, List, ℕ}
use Rattle.std.proofs.Common.{sym, ap, ◌∙◌}
use Rattle.meaning.specs.declared.State.{State}
use Rattle.meaning.specs.Calls.{Opened, open_of, Ran, WithStore, trace_lent, run_lent, trace_of, run_of, Refreshed, refresh_of, Needed, needed_of}
use Rattle.meaning.specs.Fresh.{FreshRan, fresh_trace_lent, fresh_lent, fresh_trace_of, fresh_of}
use Rattle.meaning.specs.Store.{lent_by}
use Rattle.step_note.specs.Events.{inscribed}
use Rattle.call_open.specs.declared.OpenDone.{OpenDone}
use Rattle.call_open.specs.Answers.{opened_in}
use Rattle.call_refresh.specs.declared.RefreshDone.{RefreshDone}
use Rattle.call_refresh.specs.Answers.{refreshed_in}
use Rattle.call_run.specs.declared.RunDone.{RunDone}
use Rattle.call_run.specs.Answers.{ran_back, with_store}
use Rattle.fresh_call.specs.declared.FreshDone.{FreshDone}
use Rattle.fresh_call.specs.Answers.{fresh_back}
use Rattle.fresh_call.specs.Answers.{with_store as fresh_with}
use Rattle.calls.specs.declared.LengthDone.{LengthDone}
use Rattle.calls.specs.Answers.{needed_in}

-- what the table's length gives: number, position and words
pub length-once : (image : List ℕ) (r r' : LengthDone) → needed_in r ≡ needed_of image → needed_in r' ≡ needed_of image → r ≡ r'
length-once image r r' p q = ap (λ (o : Needed). record { number = o.number; position = o.position; words = o.words }) (p ∙ sym q)

-- what open gives: number, position and state; and the table that it leaves
pub open-once : (image table : List ℕ) (r r' : OpenDone) (left left' : List ℕ)
    → opened_in r left ≡ open_of image table → opened_in r' left' ≡ open_of image table → (r ≡ r') × (left ≡ left')
open-once image table r r' left left' p q =
    let same : opened_in r left ≡ opened_in r' left' = p ∙ sym q in
    (ap (λ (o : Opened). record { number = o.number; position = o.position; state = o.state }) same, ap (λ (o : Opened). o.table) same)

-- what run gives: number, position, state and steps made; and the table that it leaves
pub run-once : (image : List ℕ) (s : State) (table : List ℕ) (steps : ℕ) (r r' : RunDone) (left left' : List ℕ)
    → ran_back r left ≡ run_of image s table steps → ran_back r' left' ≡ run_of image s table steps → (r ≡ r') × (left ≡ left')
run-once image s table steps r r' left left' p q =
    let same : ran_back r left ≡ ran_back r' left' = p ∙ sym q in
    (ap (λ (o : Ran). record { number = o.number; position = o.position; state = o.state; made = o.made }) same, ap (λ (o : Ran). o.table) same)

-- what trace notes besides: every word of the events, those past the steps made among them
pub events-once : (image : List ℕ) (s : State) (table : List ℕ) (steps : ℕ) (events noted noted' : List ℕ)
    → noted ≡ inscribed events 0 (trace_of image s table steps).events → noted' ≡ inscribed events 0 (trace_of image s table steps).events → noted ≡ noted'
events-once image s table steps events noted noted' p q = p ∙ sym q

-- what refresh gives: number, position and count; and the table that it leaves
pub refresh-once : (image : List ℕ) (s : State) (mark : ℕ) (table : List ℕ) (r r' : RefreshDone) (left left' : List ℕ)
    → refreshed_in r left ≡ refresh_of image s mark table → refreshed_in r' left' ≡ refresh_of image s mark table → (r ≡ r') × (left ≡ left')
refresh-once image s mark table r r' left left' p q =
    let same : refreshed_in r left ≡ refreshed_in r' left' = p ∙ sym q in
    (ap (λ (o : Refreshed). record { number = o.number; position = o.position; count = o.count }) same, ap (λ (o : Refreshed). o.table) same)

-- what a run without a table gives: number, position, state and steps made
pub fresh-once : (image : List ℕ) (s : State) (steps : ℕ) (r r' : FreshDone) → fresh_back r ≡ fresh_of image s steps → fresh_back r' ≡ fresh_of image s steps → r ≡ r'
fresh-once image s steps r r' p q = ap (λ (o : FreshRan). record { number = o.number; position = o.position; state = o.state; made = o.made }) (p ∙ sym q)

-- and what it notes, every word of it
pub fresh-events-once : (image : List ℕ) (s : State) (steps : ℕ) (events noted noted' : List ℕ)
    → noted ≡ inscribed events 0 (fresh_trace_of image s steps).events → noted' ≡ inscribed events 0 (fresh_trace_of image s steps).events → noted ≡ noted'
fresh-events-once image s steps events noted noted' p q = p ∙ sym q

-- what the runs give where a store may be lent: the same, and the words of the store as they are left
pub run-lent-once : (image : List ℕ) (s : State) (table : List ℕ) (steps lent : ℕ) (store : List ℕ) (r r' : RunDone) (left left' stored stored' : List ℕ)
    → with_store r left stored ≡ run_lent image s table steps lent store → with_store r' left' stored' ≡ run_lent image s table steps lent store
    → (r ≡ r') × (left ≡ left') × (stored ≡ stored')
run-lent-once image s table steps lent store r r' left left' stored stored' p q =
    let same : with_store r left stored ≡ with_store r' left' stored' = p ∙ sym q in (
      ap (λ (o : WithStore Ran). record { number = o.answer.number; position = o.answer.position; state = o.answer.state; made = o.answer.made }) same,
      ap (λ (o : WithStore Ran). o.answer.table) same,
      ap (λ (o : WithStore Ran). o.store) same,
    )

pub fresh-lent-once : (image : List ℕ) (s : State) (steps lent : ℕ) (store : List ℕ) (r r' : FreshDone) (stored stored' : List ℕ)
    → fresh_with r stored ≡ fresh_lent image s steps lent store → fresh_with r' stored' ≡ fresh_lent image s steps lent store → (r ≡ r') × (stored ≡ stored')
fresh-lent-once image s steps lent store r r' stored stored' p q =
    let same : fresh_with r stored ≡ fresh_with r' stored' = p ∙ sym q in (
      ap (λ (o : WithStore FreshRan). record { number = o.answer.number; position = o.answer.position; state = o.answer.state; made = o.answer.made }) same,
      ap (λ (o : WithStore FreshRan). o.store) same,
    )

-- and what they note, every word of it
pub lent-events-once : (image : List ℕ) (s : State) (table : List ℕ) (steps lent : ℕ) (store events noted noted' : List ℕ)
    → noted ≡ inscribed events 0 (trace_lent image s table steps (lent_by lent store)).events → noted' ≡ inscribed events 0 (trace_lent image s table steps (lent_by lent store)).events
    → noted ≡ noted'
lent-events-once image s table steps lent store events noted noted' p q = p ∙ sym q

pub fresh-lent-events-once : (image : List ℕ) (s : State) (steps lent : ℕ) (store events noted noted' : List ℕ)
    → noted ≡ inscribed events 0 (fresh_trace_lent image s steps (lent_by lent store)).events → noted' ≡ inscribed events 0 (fresh_trace_lent image s steps (lent_by lent store)).events
    → noted ≡ noted'
fresh-lent-events-once image s steps lent store events noted noted' p q = p ∙ sym q
