-- What open answers.
use Rattle.std.specs.Prelude.{ℕ, List, Result, Ok, Err}
use Rattle.meaning.specs.declared.State.{State}
use Rattle.meaning.specs.declared.reasons.Refusal.{Refusal}
use Rattle.meaning.specs.Reasons.{number_of}
use Rattle.meaning.specs.Numbers.{all_done}
use Rattle.meaning.specs.State.{zero_state}
use Rattle.meaning.specs.Calls.{Opened}
use Rattle.call_open.specs.declared.OpenDone.{OpenDone}

-- the answer, with the table as it is left
abbrev pub opened_in : OpenDone → List ℕ → Opened
opened_in r table = record { number = r.number; position = r.position; state = r.state; table = table }

-- the answer of an opening state, or of a refusal: "an all-zero state from open"
abbrev pub answered : Result State Refusal → OpenDone
answered (Ok s) = record { number = all_done; position = 0; state = s }
answered (Err refusal) = record { number = number_of refusal.reason; position = refusal.at; state = zero_state }

-- an opening state that was written where it was wanted, or the refusal
abbrev pub given_with : Result (Unit {0}) Refusal → State → Result State Refusal
given_with (Ok u) s = Ok s
given_with (Err refusal) s = Err refusal
