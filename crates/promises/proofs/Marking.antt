-- Demand 3, the mark of a step: what it names, and nothing else. (That it names all that a query can tell is in Asking.)
use Rattle.std.specs.Prelude.{◌≡◌, ◌↔◌, true, List, ℕ, ◌<◌, ℤ, length}
use Rattle.meaning.specs.declared.State.{State}
use Rattle.meaning.specs.Base.{bit}
use Rattle.meaning.specs.Model.{Model, Fact}
use Rattle.meaning.specs.Step.{Event, step_made, step}
use Rattle.promises.specs.Words.{Touched}
use Rattle.promises.proofs.Proofs.Marked.{mark-touched, touched-mark}

-- Whatever the table, the facts in memory and the utilities say: a step marks a buffer exactly if the rule that fired acts on it, or it went from pending
-- to visible. So it marks nothing else, no place past the eight buffers among it.
pub marks-exactly : (m : Model) (memory : List Fact) (us : List ℤ) (s : State) (table : List ℕ) (e : Event) (s' : State) (mark : ℕ) → step m memory us s table ≡ step_made e s' mark
    → (b : ℕ) → (bit mark b ≡ true) ↔ ((b < length s.buffers) × Touched m s e s' b)
marks-exactly m memory us s table e s' mark made b = (mark-touched m memory us s table e s' mark made b, touched-mark m memory us s table e s' mark made b)
