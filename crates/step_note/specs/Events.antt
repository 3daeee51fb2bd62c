-- The events of a run in words, and what is promised of a run that notes them.
use Rattle.std.specs.Prelude.{if◌then◌else◌, ℕ, ◌+◌, ◌*◌, ◌≡◌, List, [], ◌∷◌, leb, eqb, length}
use Rattle.std.proofs.lemmas.List.Edits.{sets}
use Rattle.meaning.specs.Step.{Event, event_fired, event_waited}
use Rattle.meaning.specs.Run.{Timed, Run}

-- an event: the clock after the step; 0 and the rule that fired, or 1 and the ms waited
abbrev pub event_words : ℕ → Event → List ℕ
event_words clock (event_fired k) = clock ∷ 0 ∷ k ∷ []
event_words clock (event_waited ms) = clock ∷ 1 ∷ ms ∷ []

-- kind 0 is a firing of rule `value`, kind 1 a wait of `value` ms
abbrev pub event_by : ℕ → ℕ → Event
event_by kind value = if eqb kind 0 then event_fired value else event_waited value

-- event k in three words of those that are lent, if they are so many
unfoldable pub noted : List ℕ → ℕ → List ℕ → List ℕ
noted lent k event = if leb (3 * k + 3) (length lent) then sets lent (3 * k) event else lent

-- events from number k on, as many as there is room for
unfoldable pub inscribed : List ℕ → ℕ → List Timed → List ℕ
inscribed lent k [] = lent
inscribed lent k (e ∷ es) = inscribed (noted lent k (event_words e.clock e.event)) (k + 1) es

-- what is promised of a run, whatever makes it: the answer is what the definition gives of it, and its events are noted
pub record Tells {Left Answer : Type 0} (gives : Run Left → Answer) (answer : Answer) (run : Run Left) (lent lent' : List ℕ) : Type 0 where
  pub is_run : answer ≡ gives run
  pub events : lent' ≡ inscribed lent 0 run.events
