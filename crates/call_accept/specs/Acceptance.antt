-- What an acceptance says.
use Rattle.std.specs.Prelude.{ℕ, ◌*◌, ◌≡◌, List, length, Result, Ok, Err, OnOk}
use Rattle.meaning.specs.declared.reasons.Refusal.{Refusal}
use Rattle.meaning.specs.Reasons.{number_of}
use Rattle.meaning.specs.Model.{Model}
use Rattle.meaning.specs.Read.{Read, read_refused, read_got}
use Rattle.meaning.specs.Calls.{accepted}
use Rattle.layout.specs.declared.Plan.{Plan}
use Rattle.layout.specs.Plans.{model_on, Planned}

-- a reading without the place where it ended: of an accepted image the calls give none
abbrev pub settled : {A : Type 0} → Read A → Read A
settled (read_refused n at) = read_refused n at
settled (read_got x at) = read_got x 0

-- an acceptance stands for the model that was laid out, a refusal for its number and its place
abbrev pub taken_by : Result (Unit {0}) Refusal → Model → Read Model
taken_by (Ok u) m = read_got m 0
taken_by (Err r) m = read_refused (number_of r.reason) r.at

-- numbers 1 to 5 and 11 to 13, for every table of that length; and of an accepted image, what the layers above need
pub record TakenMet (r : Result (Unit {0}) Refusal) (p : Plan) (image : List ℕ) (lent : ℕ) (tape : List ℕ) : Type 0 where
  pub is_taken : (table : List ℕ) → length table ≡ lent → taken_by r (model_on p tape) ≡ settled (accepted image table)
  pub planned : OnOk r (Planned p tape)
  pub right_length : OnOk r (lent ≡ 9 * p.rules)
