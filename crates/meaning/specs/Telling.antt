-- Cases that tell document 01 from what is "Plausible and wrong", and the last of "On both sides of the line": one table under a single statement.
use Rattle.std.specs.Prelude.{◌≡◌, refl, false, List, [], ◌∷◌, ◌++◌, map, ℕ, replicate, take, drop, ℤ, pos, negsuc}
use Rattle.meaning.specs.declared.Buffer.{Buffer}
use Rattle.meaning.specs.declared.State.{State}
use Rattle.meaning.specs.Model.{Model, Rule, Test, Action, Deed, deed_modify, deed_request, deed_clear, Named, Term, symbol, variable, Fact}
use Rattle.meaning.specs.State.{nil_after, buffer_of}
use Rattle.meaning.specs.Read.{Read, read_refused, read_got}
use Rattle.meaning.specs.Image.{decode}
use Rattle.meaning.specs.Match.{entry_of, fresh_table}
use Rattle.meaning.specs.Step.{Event, event_fired, event_waited, Step, step_stopped, step_made, step_of}
use Rattle.meaning.specs.Refresh.{refresh, refresh_count}
use Rattle.meaning.specs.Calls.{open_state}
use Rattle.meaning.specs.Examples.{everything, Row}

-- ---- a small model: two buffers, type 1 with two slots

-- a chunk of type 1 in a buffer, and eight buffers of which two may hold something
abbrev pub holds : ℕ → ℕ → ℕ → Buffer
holds x y delay = record { isa = 1; slots = x ∷ y ∷ replicate 6 0; delay = delay; error = false }

abbrev pub both : Buffer → Buffer → State
both b c = record { buffers = b ∷ c ∷ replicate 6 (nil_after 0); clock = 1000 }

abbrev at : ℕ → State → State
at clock s = record { buffers = s.buffers; clock = clock }

-- slot 0, and slots 0 and 1, with their terms
abbrev pub one : Term → List Named
one t = record { slot = 0; term = t } ∷ []

abbrev pub two : Term → Term → List Named
two t u = record { slot = 0; term = t } ∷ record { slot = 1; term = u } ∷ []

abbrev pub tests1 : ℕ → List Named → Test
tests1 b ns = record { buffer = b; isa = 1; named = ns }

abbrev pub tests_nil : ℕ → Test
tests_nil b = record { buffer = b; isa = 0; named = [] }

abbrev pub act : ℕ → Deed → Action
act b d = record { buffer = b; deed = d }

abbrev pub rule : ℤ → List Test → List Action → Rule
rule u ts as' = record { utility = u; tests = ts; queries = []; actions = as' }

abbrev pub fact : ℕ → ℕ → ℕ → ℕ → Fact
fact x y activation latency = record { chunk = record { isa = 1; slots = x ∷ y ∷ replicate 6 0 }; activation = activation; latency = latency }

abbrev pub model : List Fact → List Rule → Model
model fs rs = record { buffers = 2; types = 0 ∷ 2 ∷ []; failure = 70; opening = []; facts = fs; rules = rs }

-- ---- a step, as words: 1, the rule, the clock, the mark and the two buffers; 2, the ms and the same; or 0 and why it stopped

abbrev pub buffer_words : Buffer → List ℕ
buffer_words b = b.isa ∷ take 2 b.slots ++ (b.delay ∷ [])

abbrev after : State → ℕ → List ℕ
after s mark = s.clock ∷ mark ∷ buffer_words (buffer_of s 0) ++ buffer_words (buffer_of s 1)

abbrev pub step_words : Step → List ℕ
step_words (step_stopped n) = 0 ∷ n ∷ []
step_words (step_made (event_fired k) s mark) = 1 ∷ k ∷ after s mark
step_words (step_made (event_waited ms) s mark) = 2 ∷ ms ∷ after s mark

-- the step from a state with the fresh table
abbrev pub fresh : Model → State → List ℕ
fresh m s = step_words (step_of m s (fresh_table m.rules s))

-- the step from the opening of an image, or why it is refused
abbrev opening : Read Model → List ℕ
opening (read_refused n at) = 0 ∷ n ∷ []
opening (read_got m at) = fresh m (open_state m)

-- an image with one buffer, and two rules that test it for nil and do nothing; their utility fields are FFFF and 0001 hex
unfoldable signs : List ℕ
signs =
    0x01 ∷ 0x10 ∷ 0x00 ∷ 0x40 ∷ 0x00 ∷ 0x00 ∷ 0x00 ∷ 0x1f ∷ 0xff ∷ 0xe2 ∷ 0x00 ∷ 0x00 ∷ 0x00 ∷ 0x00 ∷ 0x01 ∷ 0x10 ∷ 0x00 ∷ 0x00 ∷ 0x00 ∷ []

abbrev pub row : List ℕ → List ℕ → Row
row g s = record { given = g; said = s }

-- ---- the rules of the cases

abbrev pub v0 : Term
v0 = variable 0

abbrev pub v1 : Term
v1 = variable 1

-- a rule on buffer 0 that does nothing
abbrev pub idle : ℤ → Rule
idle u = rule u (tests1 0 [] ∷ []) []

-- asks memory for a chunk with the goal's first slot
abbrev pub asks : Rule
asks = rule (pos 0) (tests1 0 (one v0) ∷ []) (act 1 (deed_request 1 (one v0)) ∷ [])

-- writes each of two buffers' first slot into the other
abbrev pub swaps : Rule
swaps =
    rule (pos 0) (tests1 0 (one v0) ∷ tests1 1 (one v1) ∷ []) (act 0 (deed_modify (one v1)) ∷ act 1 (deed_modify (one v0)) ∷ [])

-- asks that two slots hold one value
abbrev pub twice : Rule
twice = rule (pos 0) (tests1 0 (two v0 v0) ∷ []) (act 0 deed_clear ∷ [])

unfoldable pub rows : List Row
unfolding everything signs
rows =
    -- "Marking only buffers acted on: a chunk that arrives during the 50 ms is missed." Buffer 1 was pending and is visible: mark 2
    row (fresh (model [] (idle (pos 0) ∷ [])) (both (holds 5 6 0) (holds 7 8 50))) (1 ∷ 0 ∷ 1050 ∷ 2 ∷ 1 ∷ 5 ∷ 6 ∷ 0 ∷ 1 ∷ 7 ∷ 8 ∷ 0 ∷ [])
    -- "A pending delay of 50 is visible after a firing; 51 leaves 1."
    ∷ row (fresh (model [] (idle (pos 0) ∷ [])) (both (holds 5 6 0) (holds 7 8 51))) (1 ∷ 0 ∷ 1050 ∷ 0 ∷ 1 ∷ 5 ∷ 6 ∷ 0 ∷ 1 ∷ 7 ∷ 8 ∷ 1 ∷ [])
    -- "Taking 50 from a delay just requested." And a request that no fact fits: nil with the failure latency
    ∷ row (fresh (model (fact 5 9 1 120 ∷ []) (asks ∷ [])) (both (holds 5 6 0) (nil_after 0))) (1 ∷ 0 ∷ 1050 ∷ 2 ∷ 1 ∷ 5 ∷ 6 ∷ 0 ∷ 1 ∷ 5 ∷ 9 ∷ 120 ∷ [])
    ∷ row (fresh (model (fact 4 9 1 120 ∷ []) (asks ∷ [])) (both (holds 5 6 0) (nil_after 0))) (1 ∷ 0 ∷ 1050 ∷ 2 ∷ 1 ∷ 5 ∷ 6 ∷ 0 ∷ 0 ∷ 0 ∷ 0 ∷ 70 ∷ [])
    -- "A request replaces a pending chunk."
    ∷ row (fresh (model (fact 5 9 1 120 ∷ []) (asks ∷ [])) (both (holds 5 6 0) (holds 7 8 300))) (1 ∷ 0 ∷ 1050 ∷ 2 ∷ 1 ∷ 5 ∷ 6 ∷ 0 ∷ 1 ∷ 5 ∷ 9 ∷ 120 ∷ [])
    -- "Letting an action see what another action of the rule wrote."
    ∷ row (fresh (model [] (swaps ∷ [])) (both (holds 5 6 0) (holds 7 8 0))) (1 ∷ 0 ∷ 1050 ∷ 3 ∷ 1 ∷ 7 ∷ 6 ∷ 0 ∷ 1 ∷ 5 ∷ 8 ∷ 0 ∷ [])
    -- "Binding a variable at its last place without comparing the first."
    ∷ row (entry_of twice (both (holds 5 6 0) (nil_after 0))) (replicate 9 0)
    ∷ row (entry_of twice (both (holds 6 6 0) (nil_after 0))) (1 ∷ 6 ∷ replicate 7 0)
    -- a cleared buffer holds nothing: the rule that cleared it does not match again
    ∷ row (fresh (model [] (twice ∷ [])) (both (holds 6 6 0) (nil_after 0))) (1 ∷ 0 ∷ 1050 ∷ 1 ∷ 0 ∷ 0 ∷ 0 ∷ 0 ∷ 0 ∷ 0 ∷ 0 ∷ 0 ∷ [])
    -- "Rebuilding the whole table at each refresh.": mark 2 touches the rule on both buffers and leaves the rule on buffer 0 alone
    ∷ row (refresh (asks ∷ swaps ∷ []) (both (holds 5 6 0) (holds 7 8 0)) 2 (replicate 18 3)) (replicate 9 3 ++ (1 ∷ 5 ∷ 7 ∷ replicate 6 0))
    ∷ row (refresh_count (asks ∷ swaps ∷ []) 2 ∷ refresh_count (asks ∷ swaps ∷ []) 1 ∷ []) (1 ∷ 2 ∷ [])
    -- "the highest utility is chosen, then the lowest number": the first of equals; a utility below 0 is the lower one
    ∷ row (take 2 (fresh (model [] (idle (pos 3) ∷ idle (pos 4) ∷ idle (pos 4) ∷ [])) (both (holds 5 6 0) (nil_after 0)))) (1 ∷ 1 ∷ [])
    ∷ row (take 2 (fresh (model [] (idle (negsuc 0) ∷ idle (pos 0) ∷ [])) (both (holds 5 6 0) (nil_after 0)))) (1 ∷ 1 ∷ [])
    -- and so it is for utilities that an image gives: FFFF hex, -1, is below 0001
    ∷ row (take 2 (opening (decode signs))) (1 ∷ 1 ∷ [])
    -- "the highest activation, then the lowest fact number"
    ∷ row (drop 8 (fresh (model (fact 5 1 3 10 ∷ fact 5 2 4 20 ∷ fact 5 3 4 30 ∷ []) (asks ∷ [])) (both (holds 5 6 0) (nil_after 0)))) (1 ∷ 5 ∷ 2 ∷ 20 ∷ [])
    -- a pending buffer fails every test, "A test of type 0" too: so the step waits
    ∷ row (fresh (model [] (rule (pos 0) (tests_nil 1 ∷ []) [] ∷ [])) (both (holds 5 6 0) (nil_after 30))) (2 ∷ 30 ∷ 1030 ∷ 2 ∷ 1 ∷ 5 ∷ 6 ∷ 0 ∷ 0 ∷ 0 ∷ 0 ∷ 0 ∷ [])
    -- "the smallest such delay is taken from every delay above 0"
    ∷ row (fresh (model [] []) (both (holds 5 6 40) (holds 7 8 30))) (2 ∷ 30 ∷ 1030 ∷ 2 ∷ 1 ∷ 5 ∷ 6 ∷ 10 ∷ 1 ∷ 7 ∷ 8 ∷ 0 ∷ [])
    -- "In a step 7 comes before 8": a stale entry at a full clock; a wait past the largest clock; nothing pending, whatever the clock
    ∷ row (step_words (step_of (model [] (idle (pos 0) ∷ [])) (at 4294967295 (both (holds 5 6 0) (nil_after 0))) (1 ∷ 9 ∷ replicate 7 0))) (0 ∷ 7 ∷ [])
    ∷ row (fresh (model [] []) (at 4294967295 (both (nil_after 1) (nil_after 0)))) (0 ∷ 8 ∷ [])
    ∷ row (fresh (model [] []) (at 4294967295 (both (nil_after 0) (nil_after 0)))) (0 ∷ 9 ∷ [])
    -- "Entries whose first word is 1 count as matching, all others as not."
    ∷ row (step_words (step_of (model [] (idle (pos 0) ∷ [])) (both (holds 5 6 0) (nil_after 0)) (2 ∷ replicate 8 0))) (0 ∷ 9 ∷ [])
    ∷ []

-- every row's two sides are the same
pub telling : map (λ (r : Row). r.given) rows ≡ map (λ (r : Row). r.said) rows
unfolding rows
telling = refl
