-- Change request 2026-01, on both sides of the line: "a slot test with a variable fails when the slot holds nil; a constant nil still tests for an empty
-- slot. Requests are as before." One table under a single statement.
use Rattle.std.specs.Prelude.{◌≡◌, refl, List, [], ◌∷◌, map, ℕ, replicate, take, drop, pos}
use Rattle.meaning.specs.declared.State.{State}
use Rattle.meaning.specs.Model.{Rule, deed_request, Term, symbol, Named}
use Rattle.meaning.specs.State.{nil_after}
use Rattle.meaning.specs.Match.{entry_of}
use Rattle.meaning.specs.Retrieval.{retrieve, retrieved}
use Rattle.meaning.specs.Step.{step_of}
use Rattle.meaning.specs.Examples.{everything, Row}
use Rattle.meaning.specs.Telling.{holds, both, one, two, tests1, act, rule, fact, model, buffer_words, step_words, fresh, row, v0, v1, idle, asks, swaps, twice}

abbrev nil : Term
nil = symbol 0

-- a goal with these two slots, and nothing else
abbrev goal : ℕ → ℕ → State
goal x y = both (holds x y 0) (nil_after 0)

-- a rule on the goal's two slots with these terms
abbrev wants : Term → Term → Rule
wants t u = rule (pos 9) (tests1 0 (two t u) ∷ []) []

-- a rule with one variable in the first slots of two buffers
abbrev across : Rule
across = rule (pos 0) (tests1 0 (one v0) ∷ tests1 1 (one v0) ∷ []) []

-- a rule that asks memory for the goal's first slot, and nil in the second
abbrev asks_empty : Rule
asks_empty = rule (pos 0) (tests1 0 (one v0) ∷ []) (act 1 (deed_request 1 (two v0 nil)) ∷ [])

unfoldable pub rows : List Row
unfolding everything
rows =
    -- "With 01's rule a half-filled goal sets off rules meant for a full one": now neither slot may be empty
    row (entry_of (wants v0 v1) (goal 5 6)) (1 ∷ 5 ∷ 6 ∷ replicate 6 0)
    ∷ row (entry_of (wants v0 v1) (goal 5 0)) (replicate 9 0)
    ∷ row (entry_of (wants v0 v1) (goal 0 6)) (replicate 9 0)
    ∷ row (entry_of (wants v0 v1) (goal 0 0)) (replicate 9 0)
    -- so a rule of lower utility fires on it
    ∷ row (take 2 (fresh (model [] (wants v0 v1 ∷ idle (pos 0) ∷ [])) (goal 5 6))) (1 ∷ 0 ∷ [])
    ∷ row (take 2 (fresh (model [] (wants v0 v1 ∷ idle (pos 0) ∷ [])) (goal 5 0))) (1 ∷ 1 ∷ [])
    -- a constant nil holds on an empty slot, and on no other; beside it a variable is as always
    ∷ row (entry_of (wants nil nil) (goal 0 0)) (1 ∷ replicate 8 0)
    ∷ row (entry_of (wants v0 nil) (goal 5 0)) (1 ∷ 5 ∷ replicate 7 0)
    ∷ row (entry_of (wants v0 nil) (goal 5 6)) (replicate 9 0)
    -- one variable in two slots: both nil, either nil, both filled
    ∷ row (entry_of twice (goal 0 0)) (replicate 9 0)
    ∷ row (entry_of twice (goal 5 0)) (replicate 9 0)
    ∷ row (entry_of twice (goal 0 5)) (replicate 9 0)
    ∷ row (entry_of twice (goal 5 5)) (1 ∷ 5 ∷ replicate 7 0)
    -- one variable in two buffers: both slots filled, either nil, both nil
    ∷ row (entry_of across (both (holds 5 6 0) (holds 5 8 0))) (1 ∷ 5 ∷ replicate 7 0)
    ∷ row (entry_of across (both (holds 5 6 0) (holds 0 8 0))) (replicate 9 0)
    ∷ row (entry_of across (both (holds 0 6 0) (holds 5 8 0))) (replicate 9 0)
    ∷ row (entry_of across (both (holds 0 6 0) (holds 0 8 0))) (replicate 9 0)
    -- two variables in two buffers: the second slot nil
    ∷ row (entry_of swaps (both (holds 5 6 0) (holds 0 8 0))) (replicate 9 0)
    -- a slot that no test names may be empty
    ∷ row (entry_of asks (goal 5 0)) (1 ∷ 5 ∷ replicate 7 0)
    -- "Requests are as before": a fact with nil in a slot comes to a request that does not name the slot, and to one that names it by a constant nil
    ∷ row (drop 8 (fresh (model (fact 5 0 1 120 ∷ []) (asks ∷ [])) (goal 5 6))) (1 ∷ 5 ∷ 0 ∷ 120 ∷ [])
    ∷ row (drop 8 (fresh (model (fact 5 7 2 90 ∷ fact 5 0 1 120 ∷ []) (asks_empty ∷ [])) (goal 5 6))) (1 ∷ 5 ∷ 0 ∷ 120 ∷ [])
    -- with an entry that binds nil, which no run leads to, memory is asked for nil: that is for a match to refuse, not for a request
    ∷ row (buffer_words (retrieved 70 (retrieve (fact 0 6 1 120 ∷ []) 1 (one v0) (1 ∷ replicate 8 0)))) (1 ∷ 0 ∷ 6 ∷ 120 ∷ [])
    -- an entry from before the request, with nil for a variable, is stale: 7 if it is chosen
    ∷ row (step_words (step_of (model [] (twice ∷ [])) (goal 0 0) (1 ∷ replicate 8 0))) (0 ∷ 7 ∷ [])
    ∷ []

-- every row's two sides are the same
pub empty-slots : map (λ (r : Row). r.given) rows ≡ map (λ (r : Row). r.said) rows
unfolding rows
empty-slots = refl
