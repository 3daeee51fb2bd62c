-- What a run answers, and what is promised of it.
use Rattle.std.specs.Prelude.{ℕ, Bool, List, Result, Ok, Err}
use Rattle.meaning.specs.declared.State.{State}
use Rattle.meaning.specs.declared.reasons.Refusal.{Refusal}
use Rattle.meaning.specs.Reasons.{number_of}
use Rattle.meaning.specs.Model.{Model}
use Rattle.meaning.specs.Read.{Read}
use Rattle.meaning.specs.Run.{Going, Run}
use Rattle.meaning.specs.Store.{store_left}
use Rattle.meaning.specs.Calls.{place_of, Ran, ran_by, traced_by, WithStore}
use Rattle.step_note.specs.Events.{Tells}
use Rattle.call_store.specs.Lending.{lent_if}
use Rattle.call_run.specs.declared.RunDone.{RunDone}

-- the answer, with the table as it is left
abbrev pub ran_back : RunDone → List ℕ → Ran
ran_back r table = record { number = r.number; position = r.position; state = r.state; table = table; made = r.made }

-- a run that was made, or the answer of a refused one: "count 0, the state as handed in"
abbrev pub answered : State → Result RunDone Refusal → RunDone
answered s (Ok done) = done
answered s (Err refusal) = record { number = number_of refusal.reason; position = refusal.at; state = s; made = 0 }

-- the answer of a run that was written where it was wanted, or the refusal
abbrev pub given_with : Result (Unit {0}) Refusal → RunDone → Result RunDone Refusal
given_with (Ok u) done = Ok done
given_with (Err refusal) done = Err refusal

-- and with the words of the store
abbrev pub with_store : RunDone → List ℕ → List ℕ → WithStore Ran
with_store r table store = record { answer = ran_back r table; store = store }

-- what a run gives, and how it leaves the words of the store
abbrev pub ran_into : ℕ → List ℕ → Run Going → WithStore Ran
ran_into position store r = record { answer = ran_by position r; store = store_left store r.left.store }

-- a run by what was accepted
abbrev pub RunMet : RunDone → Read Model → State → List ℕ → List ℕ → ℕ → List ℕ → List ℕ → Bool → List ℕ → List ℕ → Type 0
RunMet r accepted s table table' steps noted noted' lent store store' =
    Tells (ran_into (place_of accepted) store) (with_store r table' store') (traced_by s table (lent_if lent store) steps accepted) noted noted'
