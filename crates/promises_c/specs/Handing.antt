-- What a caller in C holds, and what it does with it.
use Rattle.std.specs.Prelude.{◌≡◌, false, List, [], ◌∷◌, ◌++◌, ℕ, ◌+◌, ◌*◌, ◌/◌, ◌%◌, ◌≤◌, ◌<◌, length, get_or}
use Rattle.meaning.specs.Base.{bit}
use Rattle.meaning.specs.Step.{largest}
use Rattle.meaning.specs.Run.{Timed}
use Rattle.meaning.specs.Calls.{Ran}
use Rattle.meaning.specs.Fresh.{FreshRan}
use Rattle.step_note.specs.Events.{event_words, inscribed}
use Rattle.call_run.specs.declared.RunDone.{RunDone}
use Rattle.fresh_call.specs.declared.FreshDone.{FreshDone}
use Rattle.jirvuntsag.specs.Words.{state_of}
use Rattle.jirvuntsag.specs.Told.{Told, open_in, run_in, refresh_in, events_in}
use Rattle.jirvuntsag.specs.Fresh.{FreshTold, fresh_in, fresh_events_in}
use Rattle.jirvuntsag.specs.Lent.{run_lent_in, lent_events_in, fresh_lent_in, fresh_lent_events_in}

-- an answer is the number, 65,536 times a count and 4,294,967,296 times a position (JIRVUNTSAG_NUMBER, JIRVUNTSAG_COUNT and JIRVUNTSAG_POSITION of the header)
abbrev pub number_in : ℕ → ℕ
number_in answer = answer % 65536

abbrev pub count_in : ℕ → ℕ
count_in answer = answer / 65536 % 65536

abbrev pub position_in : ℕ → ℕ
position_in answer = answer / 4294967296

-- what is read off an answer
pub record Reads (answer number count position : ℕ) : Type 0 where
  pub number_read : number_in answer ≡ number
  pub count_read : count_in answer ≡ count
  pub position_read : position_in answer ≡ position

-- what a run answered and left over words, read as an answer over states
abbrev pub ran_in : Told → Ran
ran_in a = record { number = number_in a.answered; position = position_in a.answered; state = state_of a.words; table = a.table; made = count_in a.answered }

-- the same of a run without a table
abbrev pub fresh_ran_in : FreshTold → FreshRan
fresh_ran_in a = record { number = number_in a.answered; position = position_in a.answered; state = state_of a.words; made = count_in a.answered }

-- two states have the same eleven words for buffer b
abbrev pub SameBuffer : List ℕ → List ℕ → ℕ → Type 0
SameBuffer w w' b = (j : ℕ) → j < 11 → get_or w (1 + (11 * b + j)) 0 ≡ get_or w' (1 + (11 * b + j)) 0

-- the words and tables that a caller of one image can hold: those of an accepted opening; then what a kept run, with any store beside it, lent or not, or a refresh leaves
-- when it is handed what was left before it, whatever it answers; and words that the caller changes itself, refreshed with a mark of every buffer changed, if that refresh answers 0
pub data Held (image : List ℕ) : List ℕ → List ℕ → Type 0 where
  opened : (table : List ℕ) → number_in (open_in image table).answered ≡ 0 → Held image (open_in image table).words (open_in image table).table
  ran : {w table : List ℕ} → Held image w table → (steps lent : ℕ) (store : List ℕ)
      → Held image (run_lent_in image w table steps lent store).answer.words (run_lent_in image w table steps lent store).answer.table
  refreshed : {w table : List ℕ} → Held image w table → (mark : ℕ) → Held image (refresh_in image w mark table).words (refresh_in image w mark table).table
  changed : {w table : List ℕ} → Held image w table → (w' : List ℕ) (mark : ℕ) → length w' ≡ 89 → get_or w' 0 0 ≤ largest → ((b : ℕ) → bit mark b ≡ false → SameBuffer w w' b)
      → number_in (refresh_in image w' mark table).answered ≡ 0 → Held image w' (refresh_in image w' mark table).table

-- a call left the words and the table, and counted nothing
pub record Leaves (w table : List ℕ) (a : Told) : Type 0 where
  pub words_stay : a.words ≡ w
  pub table_stays : a.table ≡ table
  pub none_counted : count_in a.answered ≡ 0

-- the same of a call that has no table
pub record FreshLeaves (w : List ℕ) (a : FreshTold) : Type 0 where
  pub words_stay : a.words ≡ w
  pub none_counted : count_in a.answered ≡ 0

-- events in the words that were lent for them: three words for each, in order, as long as there are three; all other words stay
abbrev pub lay_events : List ℕ → List Timed → List ℕ
lay_events lent [] = lent
lay_events [] (e ∷ es) = []
lay_events (a ∷ []) (e ∷ es) = a ∷ []
lay_events (a ∷ b ∷ []) (e ∷ es) = a ∷ b ∷ []
lay_events (a ∷ b ∷ c ∷ rest) (e ∷ es) = event_words e.clock e.event ++ lay_events rest es

-- a kept run and a run without a table gave back the same
pub record SameDone (kept : RunDone) (fresh : FreshDone) : Type 0 where
  pub same_number : fresh.number ≡ kept.number
  pub same_position : fresh.position ≡ kept.position
  pub same_state : fresh.state ≡ kept.state
  pub same_count : fresh.made ≡ kept.made

-- the same for C, where the number, the count and the position are the answer: the answer, every word of the state, and every word of those lent for the events
pub record SameTold (image w table : List ℕ) (steps : ℕ) : Type 0 where
  pub same_answer : (fresh_in image w steps).answered ≡ (run_in image w table steps).answered
  pub same_words : (fresh_in image w steps).words ≡ (run_in image w table steps).words
  pub same_lent : (lent : List ℕ) → inscribed lent 0 (fresh_events_in image w steps) ≡ inscribed lent 0 (events_in image w table steps)

-- the same where a store may be lent: every word of the store besides, as it is left
pub record SameLent (image w table : List ℕ) (steps lent : ℕ) (store : List ℕ) : Type 0 where
  pub same_answer : (fresh_lent_in image w steps lent store).answer.answered ≡ (run_lent_in image w table steps lent store).answer.answered
  pub same_words : (fresh_lent_in image w steps lent store).answer.words ≡ (run_lent_in image w table steps lent store).answer.words
  pub same_store : (fresh_lent_in image w steps lent store).store ≡ (run_lent_in image w table steps lent store).store
  pub same_events : (noted : List ℕ) → inscribed noted 0 (fresh_lent_events_in image w steps lent store) ≡ inscribed noted 0 (lent_events_in image w table steps lent store)
