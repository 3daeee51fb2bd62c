-- What the calls without a table answer, for all that C could hand in; that this settles all; and a word too large for its field.
use Rattle.std.specs.Prelude.{if◌then◌else◌, ℕ, ◌≡◌, List, []}
use Rattle.std.proofs.Common.{sym, ap, ◌∙◌}
use Rattle.meaning.specs.Numbers.{ill_formed}
use Rattle.meaning.specs.Model.{Model}
use Rattle.meaning.specs.Read.{read_got}
use Rattle.meaning.specs.Image.{decode}
use Rattle.meaning.specs.Run.{Timed}
use Rattle.meaning.specs.Fresh.{FreshRan, fresh_trace_of, fresh_of}
use Rattle.step_note.specs.Events.{inscribed}
use Rattle.jirvuntsag.specs.Words.{state_of, words_of, fits}
use Rattle.jirvuntsag.specs.Told.{answer, unfit_answer}
use Rattle.jirvuntsag.specs.Back.{TooLarge, unfit}

-- the answer and the state's words, as a call leaves them
pub record FreshTold : Type 0 where
  pub answered : ℕ
  pub words : List ℕ

abbrev pub fresh_told : ℕ → List ℕ → FreshTold
fresh_told a w = record { answered = a; words = w }

abbrev pub told_fresh : FreshRan → FreshTold
told_fresh r = fresh_told (answer r.number r.made r.position) (words_of r.state)

unfoldable pub fresh_in : List ℕ → List ℕ → ℕ → FreshTold
fresh_in image w steps = if fits w then told_fresh (fresh_of image (state_of w) steps) else fresh_told (unfit_answer (decode image)) w

-- the events of a run, none if it is refused
unfoldable pub fresh_events_in : List ℕ → List ℕ → ℕ → List Timed
fresh_events_in image w steps = if fits w then (fresh_trace_of image (state_of w) steps).events else []

-- ---- two results that meet the contract are the same: the answer, every word of the state, and of the events

pub fresh-once : (image state : List ℕ) (steps a a' : ℕ) (w w' : List ℕ)
    → fresh_told a w ≡ fresh_in image state steps → fresh_told a' w' ≡ fresh_in image state steps → (a ≡ a') × (w ≡ w')
fresh-once image state steps a a' w w' p q =
    let same : fresh_told a w ≡ fresh_told a' w' = p ∙ sym q in
    (ap (λ (o : FreshTold). o.answered) same, ap (λ (o : FreshTold). o.words) same)

pub fresh-events-once : (image state : List ℕ) (steps : ℕ) (events noted noted' : List ℕ)
    → noted ≡ inscribed events 0 (fresh_events_in image state steps) → noted' ≡ inscribed events 0 (fresh_events_in image state steps) → noted ≡ noted'
fresh-events-once image state steps events noted noted' p q = p ∙ sym q

-- ---- where the image is accepted, a word too large for its field makes the call answer 6, count 0 and position 0, with the words as they were handed in, and no event

pub fresh-words-back : (image w : List ℕ) (m : Model) (at : ℕ) → decode image ≡ read_got m at → TooLarge w → (steps : ℕ)
    → (fresh_in image w steps ≡ fresh_told (answer ill_formed 0 0) w) × (fresh_events_in image w steps ≡ [])
unfolding fresh_in fresh_events_in
fresh-words-back image w m at e h steps = (rw (unfit w h, e), rw (unfit w h))
