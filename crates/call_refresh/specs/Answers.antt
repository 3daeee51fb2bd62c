-- What refresh answers.
use Rattle.std.specs.Prelude.{ℕ, List, Result, Ok, Err}
use Rattle.meaning.specs.declared.reasons.Refusal.{Refusal}
use Rattle.meaning.specs.Reasons.{number_of}
use Rattle.meaning.specs.Numbers.{all_done}
use Rattle.meaning.specs.Calls.{Refreshed}
use Rattle.call_refresh.specs.declared.RefreshDone.{RefreshDone}

-- the answer, with the table as it is left
abbrev pub refreshed_in : RefreshDone → List ℕ → Refreshed
refreshed_in r table = record { number = r.number; position = r.position; count = r.count; table = table }

-- the answer of a count of rules, or of a refusal: "count 0"
abbrev pub answered : Result ℕ Refusal → RefreshDone
answered (Ok count) = record { number = all_done; position = 0; count = count }
answered (Err refusal) = record { number = number_of refusal.reason; position = refusal.at; count = 0 }
