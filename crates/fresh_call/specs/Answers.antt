-- What a run with nothing kept answers, and what is promised of it.
use Rattle.std.specs.Prelude.{ℕ, Bool, List, Result, Ok, Err}
use Rattle.meaning.specs.declared.State.{State}
use Rattle.meaning.specs.declared.reasons.Refusal.{Refusal}
use Rattle.meaning.specs.Reasons.{number_of}
use Rattle.meaning.specs.Model.{Model}
use Rattle.meaning.specs.Read.{Read}
use Rattle.meaning.specs.Run.{Run}
use Rattle.meaning.specs.Store.{store_left}
use Rattle.meaning.specs.Calls.{place_of, WithStore}
use Rattle.meaning.specs.Fresh.{Moving, FreshRan, fresh_ran_by, fresh_by}
use Rattle.step_note.specs.Events.{Tells}
use Rattle.call_store.specs.Lending.{lent_if}
use Rattle.fresh_call.specs.declared.FreshDone.{FreshDone}

-- the answer, as the definition has it
abbrev pub fresh_back : FreshDone → FreshRan
fresh_back r = record { number = r.number; position = r.position; state = r.state; made = r.made }

-- a run that was made, or the answer of a refused one: "count 0, the state as handed in"
abbrev pub answered : State → Result FreshDone Refusal → FreshDone
answered s (Ok done) = done
answered s (Err refusal) = record { number = number_of refusal.reason; position = refusal.at; state = s; made = 0 }

-- and with the words of the store
abbrev pub with_store : FreshDone → List ℕ → WithStore FreshRan
with_store r store = record { answer = fresh_back r; store = store }

-- what a run gives, and how it leaves the words of the store
abbrev pub fresh_into : ℕ → List ℕ → Run Moving → WithStore FreshRan
fresh_into position store r = record { answer = fresh_ran_by position r; store = store_left store r.left.store }

-- a run by what was decoded
abbrev pub FreshMet : FreshDone → Read Model → State → ℕ → List ℕ → List ℕ → Bool → List ℕ → List ℕ → Type 0
FreshMet r decoded s steps noted noted' lent store store' = Tells (fresh_into (place_of decoded) store) (with_store r store') (fresh_by s (lent_if lent store) steps decoded) noted noted'
