-- Change request 2026-02, on both sides of the line: the run without a table "matches every rule afresh at each step". "Refusals: 1 to 4, 6, 8 and 9 in 01's
-- order". One table under a single statement.
use Rattle.std.specs.Prelude.{◌≡◌, refl, List, [], ◌∷◌, ◌++◌, map, ℕ, length, take, replicate, ℤ, pos}
use Rattle.std.proofs.Math.Option.{none}
use Rattle.meaning.specs.declared.State.{State}
use Rattle.meaning.specs.Model.{Model, Rule, deed_clear}
use Rattle.meaning.specs.State.{nil_after, zero_state, buffer_of}
use Rattle.meaning.specs.Step.{Event, event_fired, event_waited}
use Rattle.meaning.specs.Run.{Timed, Run}
use Rattle.meaning.specs.Calls.{open_of}
use Rattle.meaning.specs.Fresh.{Moving, moving, fresh_from, fresh_trace_of, fresh_of}
use Rattle.meaning.specs.Examples.{everything, Row, p1, model_a}
use Rattle.meaning.specs.Telling.{holds, both, tests1, act, rule, fact, model, buffer_words, row, idle, asks, twice}

-- an event in words: the clock after it, 1 and the rule, or 2 and the ms
abbrev event_words : Timed → List ℕ
event_words e = e.clock ∷ kind e.event
  where
    kind : Event → List ℕ
    kind (event_fired k) = 1 ∷ k ∷ []
    kind (event_waited ms) = 2 ∷ ms ∷ []

abbrev events_words : List Timed → List ℕ
events_words [] = []
events_words (e ∷ es) = event_words e ++ events_words es

-- a run in words: its number, and its events
abbrev told : Run Moving → List ℕ
told r = r.number ∷ events_words r.events

-- the rules of the cases: one that clears a buffer which holds a chunk
abbrev clears : ℕ → ℤ → Rule
clears b u = rule u (tests1 b [] ∷ []) (act b deed_clear ∷ [])

abbrev full : State
full = both (holds 6 6 0) (holds 7 8 0)

abbrev at : ℕ → State → State
at clock s = record { buffers = s.buffers; clock = clock }

-- a run from a state where no store is lent
abbrev alone : Model → ℕ → State → Run Moving
alone m n s = fresh_from m n (moving s none)

unfoldable pub rows : List Row
unfolding everything p1 model_a
rows =
    -- model A's whole run, as 01 prints it
    row (told (fresh_trace_of model_a (open_of model_a (replicate 27 0)).state 1000))
    (9 ∷ 50 ∷ 1 ∷ 0 ∷ 150 ∷ 2 ∷ 100 ∷ 200 ∷ 1 ∷ 1 ∷ 300 ∷ 2 ∷ 100 ∷ 350 ∷ 1 ∷ 1 ∷ 400 ∷ 1 ∷ 2 ∷ 550 ∷ 2 ∷ 150 ∷ [])
    -- and what the call gives of it: the count, and the state after the last step
    ∷ row ((fresh_of model_a (open_of model_a (replicate 27 0)).state 1000).made ∷ (fresh_of model_a (open_of model_a (replicate 27 0)).state 1000).state.clock ∷ []) (7 ∷ 550 ∷ [])
    -- "9 .. halted before the steps asked were made": 0 where all are made, though it has halted by then; a step that was asked and not made is 9
    ∷ row (told (alone (model [] (twice ∷ [])) 1 (both (holds 6 6 0) (nil_after 0)))) (0 ∷ 1050 ∷ 1 ∷ 0 ∷ [])
    ∷ row (told (alone (model [] (twice ∷ [])) 2 (both (holds 6 6 0) (nil_after 0)))) (9 ∷ 1050 ∷ 1 ∷ 0 ∷ [])
    ∷ row (told (alone (model [] (twice ∷ [])) 0 (both (holds 6 6 0) (nil_after 0)))) (0 ∷ [])
    -- a cleared buffer sets off no rule again; a rule on a buffer that no step has touched is matched all the same
    ∷ row (told (alone (model [] (clears 0 (pos 5) ∷ clears 1 (pos 0) ∷ [])) 9 full)) (9 ∷ 1050 ∷ 1 ∷ 0 ∷ 1100 ∷ 1 ∷ 1 ∷ [])
    -- a chunk that arrives within a firing is seen by the next step
    ∷ row (told (alone (model [] (clears 0 (pos 0) ∷ clears 1 (pos 5) ∷ [])) 9 (both (holds 6 6 0) (holds 7 8 50)))) (9 ∷ 1050 ∷ 1 ∷ 0 ∷ 1100 ∷ 1 ∷ 1 ∷ [])
    -- "the highest utility is chosen, then the lowest number"
    ∷ row (told (alone (model [] (idle (pos 3) ∷ idle (pos 4) ∷ idle (pos 4) ∷ [])) 1 full)) (0 ∷ 1050 ∷ 1 ∷ 1 ∷ [])
    -- "8 .. clock would pass 4,294,967,295", in a firing and in a wait; nothing pending is 9, whatever the clock
    ∷ row (told (alone (model [] (idle (pos 0) ∷ [])) 1 (at 4294967245 full))) (0 ∷ 4294967295 ∷ 1 ∷ 0 ∷ [])
    ∷ row (told (alone (model [] (idle (pos 0) ∷ [])) 1 (at 4294967246 full))) (8 ∷ [])
    ∷ row (told (alone (model [] []) 1 (at 4294967295 (both (nil_after 1) (nil_after 0))))) (8 ∷ [])
    ∷ row (told (alone (model [] []) 1 (at 4294967295 full))) (9 ∷ [])
    -- "8 and 9 return the state .. after the steps already made; the step in question changes nothing"
    ∷ row ((alone (model [] (idle (pos 0) ∷ [])) 2 (at 4294967245 full)).number ∷ (alone (model [] (idle (pos 0) ∷ [])) 2 (at 4294967245 full)).left.state.clock ∷ [])
    (8 ∷ 4294967295 ∷ [])
    -- a request that no fact fits
    ∷ row (buffer_words (buffer_of (alone (model (fact 4 9 1 120 ∷ []) (asks ∷ [])) 1 (both (holds 5 6 0) (nil_after 0))).left.state 1)) (0 ∷ 0 ∷ 0 ∷ 70 ∷ [])
    -- P1 to P6: 9; no step asked 0; cut short 2; a ninth byte 4; a pad bit 4; type 1 where T is 0 is 3
    ∷ row ((fresh_of p1 zero_state 5).number ∷ (fresh_of p1 zero_state 0).number ∷ (fresh_of (take 7 p1) zero_state 5).number ∷ (fresh_of (p1 ++ (0 ∷ [])) zero_state 5).number
    ∷ (fresh_of (take 7 p1 ++ (0x10 ∷ [])) zero_state 5).number ∷ (fresh_of (take 7 p1 ++ (0x20 ∷ [])) zero_state 5).number ∷ [])
    (9 ∷ 0 ∷ 2 ∷ 4 ∷ 4 ∷ 3 ∷ [])
    -- "state not well formed" is 6, after the numbers of the image: type 1 where T is 0; refused, it gives the state back and no event
    ∷ row ((fresh_of p1 full 5).number ∷ (fresh_of (take 7 p1 ++ (0x20 ∷ [])) full 5).number ∷ (fresh_of p1 full 5).made ∷ (fresh_of p1 full 5).state.clock
    ∷ (fresh_of (take 7 p1 ++ (0x20 ∷ [])) full 5).state.clock ∷ [])
    (6 ∷ 3 ∷ 0 ∷ 1000 ∷ 1000 ∷ [])
    ∷ row (told (fresh_trace_of p1 full 5)) (6 ∷ [])
    ∷ []

-- every row's two sides are the same
pub made-afresh : map (λ (r : Row). r.given) rows ≡ map (λ (r : Row). r.said) rows
unfolding rows
made-afresh = refl
