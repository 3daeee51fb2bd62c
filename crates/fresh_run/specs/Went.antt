-- What a run with nothing kept but what is learned answers.
use Rattle.std.specs.Prelude.{ℕ, List}
use Rattle.std.proofs.Math.Option.{Option}
use Rattle.meaning.specs.Model.{Model, Chunk}
use Rattle.meaning.specs.Run.{Run}
use Rattle.meaning.specs.Fresh.{Moving, moving, FreshRan, fresh_ran_by, fresh_from}
use Rattle.layout.specs.StateWords.{state_in}
use Rattle.step_learn.specs.Knows.{Knows, Stored}
use Rattle.step_note.specs.Events.{Tells}
use Rattle.running.specs.declared.Went.{Went}
use Rattle.running.specs.Runs.{ended_by}

-- what a run answers, with the state's words as they are left: no field is refused any more
abbrev pub ran_in : Went → List ℕ → FreshRan
ran_in r w = record { number = ended_by r.ended; position = 0; state = state_in w r.clock; made = r.made }

-- what a run gives, and the store that it leaves
abbrev pub ran_with : Run Moving → Stored FreshRan
ran_with r = record { answer = fresh_ran_by 0 r; store = r.left.store }

-- a run of a model with a store, if one is lent, from a state in words: plan and tape know at the end what the store does
pub record WentMet (r : Went) (m : Model) (store : Option (List Chunk)) (w w' : List ℕ) (clock steps : ℕ) (lent lent' tape' : List ℕ) : Type 0 where
  pub left : Option (List Chunk)
  pub tells : Tells ran_with (record { answer = ran_in r w'; store = left }) (fresh_from m steps (moving (state_in w clock) store)) lent lent'
  pub knows : Knows r.plan tape' m left
