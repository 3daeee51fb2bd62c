-- What the table's length answers.
use Rattle.std.specs.Prelude.{ℕ, Result, Ok, Err}
use Rattle.meaning.specs.declared.reasons.Refusal.{Refusal}
use Rattle.meaning.specs.Numbers.{all_done}
use Rattle.meaning.specs.Reasons.{number_of}
use Rattle.meaning.specs.Calls.{Needed}
use Rattle.calls.specs.declared.LengthDone.{LengthDone}

-- the answer, as the definition has it
abbrev pub needed_in : LengthDone → Needed
needed_in r = record { number = r.number; position = r.position; words = r.words }

-- the words needed, or the number and the place of the refusal
abbrev pub answered : Result ℕ Refusal → LengthDone
answered (Ok words) = record { number = all_done; position = 0; words = words }
answered (Err r) = record { number = number_of r.reason; position = r.at; words = 0 }
