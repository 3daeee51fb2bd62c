-- Change request 2026-06, on both sides of the line: what a query finds, what sets and clears a flag, which states and which images of version 2 are refused. One table under a single statement.
use Rattle.std.specs.Prelude.{if◌then◌else◌, ◌≡◌, refl, Bool, true, false, List, [], ◌∷◌, ◌++◌, map, ℕ, ◌+◌, ◌-◌, ◌*◌, ◌/◌, ◌%◌, ◌^◌, get_or, replicate, take, pos}
use Rattle.meaning.specs.declared.Buffer.{Buffer}
use Rattle.meaning.specs.declared.State.{State}
use Rattle.meaning.specs.Base.{up_from}
use Rattle.meaning.specs.Model.{Model, Rule, Test, Query, Ask, busy, free, error, Action, Deed, deed_modify, deed_request, deed_clear, Term, symbol}
use Rattle.meaning.specs.State.{nil_after, buffer_of, well_formed}
use Rattle.meaning.specs.Read.{Read, read_refused, read_got}
use Rattle.meaning.specs.Image.{decode}
use Rattle.meaning.specs.Match.{entry_of, fresh_table}
use Rattle.meaning.specs.Step.{Event, Step, step_stopped, step_made, step_of}
use Rattle.meaning.specs.Refresh.{refresh, refresh_count}
use Rattle.meaning.specs.Calls.{Opened, open_of, run_of, refresh_of, trace_of}
use Rattle.meaning.specs.Fresh.{fresh_of}
use Rattle.meaning.specs.Print.{lines_of}
use Rattle.meaning.specs.Examples.{everything, Row, output}
use Rattle.meaning.specs.Telling.{holds, both, one, tests1, tests_nil, act, fact, model, row, v0}

abbrev bool : Bool → ℕ
bool t = if t then 1 else 0

-- ---- queries and rules, on the two buffers of document 01's small cases

abbrev ask : ℕ → Ask → Query
ask b a = record { buffer = b; asks = a }

abbrev asking : List Test → List Query → List Action → Rule
asking ts qs as' = record { utility = pos 0; tests = ts; queries = qs; actions = as' }

-- nil that a request left which found no fact
abbrev failed : ℕ → Buffer
failed delay = record { isa = 0; slots = replicate 8 0; delay = delay; error = true }

-- whether a query of buffer 1 holds: nil and a chunk, visible and pending, and nil with its flag set, visible and pending
abbrev finds : Ask → Buffer → ℕ
finds a b = get_or (entry_of (asking [] (ask 1 a ∷ []) []) (both (nil_after 0) b)) 0 0

abbrev found : Ask → List ℕ
found a = map (finds a) (nil_after 0 ∷ nil_after 1 ∷ holds 7 8 0 ∷ holds 7 8 65535 ∷ failed 0 ∷ failed 1 ∷ [])

-- ---- a step with one fact (5, 6) in memory: 1, its mark, and of each buffer type, first slot, delay and flag; or 0 and why there is none

abbrev flag_words : Buffer → List ℕ
flag_words b = b.isa ∷ take 1 b.slots ++ (b.delay ∷ bool b.error ∷ [])

abbrev made : Step → List ℕ
made (step_stopped n) = 0 ∷ n ∷ []
made (step_made e s mark) = 1 ∷ mark ∷ flag_words (buffer_of s 0) ++ flag_words (buffer_of s 1)

abbrev steps : Rule → State → List ℕ
steps r s = made (step_of (model (fact 5 6 1 20 ∷ []) (r ∷ [])) s (fresh_table (r ∷ []) s))

-- a rule without tests that fires while buffer 0 is free, with these actions
abbrev when_free : List Action → Rule
when_free as' = asking [] (ask 0 free ∷ []) as'

abbrev requests : ℕ → List Action
requests x = act 1 (deed_request 1 (one (symbol x))) ∷ []

abbrev beside : Buffer → State
beside b = both (holds 3 4 0) b

-- ---- a refresh of two rules, of which one asks of buffer 1 and one tests buffer 0, over sevens

abbrev watchers : List Rule
watchers = asking [] (ask 1 busy ∷ []) [] ∷ asking (tests1 0 [] ∷ []) [] [] ∷ []

abbrev renewed : ℕ → List ℕ
renewed mark = refresh_count watchers mark ∷ refresh watchers (beside (nil_after 9)) mark (replicate 18 7)

-- ---- images out of fields, each with its width: two buffers that open with nil, one type with one slot, no fact, failure latency 70

record Field : Type 0 where
  width : ℕ
  value : ℕ

abbrev f : ℕ → ℕ → Field
f w v = record { width = w; value = v }

unfoldable wide : List Field → ℕ
wide [] = 0
wide (x ∷ xs) = x.width + wide xs

unfoldable joined : ℕ → List Field → ℕ
joined n [] = n
joined n (x ∷ xs) = joined (n * 2 ^ x.width + x.value) xs

-- the bytes, with zeros up to the last one's end
unfoldable image : List Field → List ℕ
unfolding wide joined
image fs = let n : ℕ = (wide fs + 7) / 8 in map (λ i. joined 0 fs * 2 ^ (8 * n - wide fs) / 256 ^ (n - 1 - i) % 256) (up_from 0 n)

abbrev begins : ℕ → ℕ → List Field
begins version rules = f 8 version ∷ f 4 2 ∷ f 6 1 ∷ f 9 rules ∷ f 10 0 ∷ f 16 70 ∷ f 4 1 ∷ f 6 0 ∷ f 6 0 ∷ []

-- utility, tests, actions and variables of a rule; a query; an action that asks memory for type 1 into buffer 1; one that clears buffer 1
abbrev head_of : ℕ → ℕ → ℕ → ℕ → List Field
head_of u ts as' vs = f 16 u ∷ f 4 ts ∷ f 4 as' ∷ f 4 vs ∷ []

abbrev query_of : ℕ → ℕ → List Field
query_of b kind = f 3 b ∷ f 2 kind ∷ []

abbrev asks_memory : List Field
asks_memory = f 3 1 ∷ f 2 1 ∷ f 6 1 ∷ f 8 0 ∷ []

abbrev clears1 : List Field
clears1 = f 3 1 ∷ f 2 2 ∷ []

-- asks memory while buffer 1 is free; and, before that, clears it after a failure
unfoldable pub retry : List ℕ
unfolding image
retry = image (begins 2 2 ++ head_of 0 0 1 0 ++ (f 4 1 ∷ query_of 1 1) ++ asks_memory ++ head_of 1 0 1 0 ++ (f 4 1 ∷ query_of 1 2) ++ clears1)

unfoldable pub told_retry : Model
told_retry =
    record {
      buffers = 2;
      types = 0 ∷ 1 ∷ [];
      failure = 70;
      opening = record { isa = 0; slots = replicate 8 0 } ∷ record { isa = 0; slots = replicate 8 0 } ∷ [];
      facts = [];
      rules = asking [] (ask 1 free ∷ []) (act 1 (deed_request 1 []) ∷ [])
          ∷ record { utility = pos 1; tests = []; queries = ask 1 error ∷ []; actions = act 1 deed_clear ∷ [] }
          ∷ [];
    }

-- its 21 bytes stand for it, whole
pub retry-is : decode retry ≡ read_got told_retry 167
unfolding everything retry image wide joined told_retry
retry-is = refl

-- an image of one rule, from its head at bit 69 on: the number and the position of its refusal; two zeros for an image that is accepted
abbrev placed : Read Model → List ℕ
placed (read_refused n at) = n ∷ at ∷ []
placed (read_got m at) = 0 ∷ 0 ∷ []

abbrev judged : ℕ → List Field → List ℕ
judged version fields = placed (decode (image (begins version 1 ++ fields)))

-- a test of buffer 0 for nil, and one of buffer 0 for type 1 whose slot is a variable
abbrev test_nil : List Field
test_nil = f 3 0 ∷ f 6 0 ∷ f 8 0 ∷ []

abbrev test_variable : List Field
test_variable = f 3 0 ∷ f 6 1 ∷ f 8 128 ∷ f 13 4096 ∷ []

-- a flag past the buffer count, and one beside a chunk
abbrev flag_past : State
flag_past = record { buffers = nil_after 0 ∷ nil_after 0 ∷ failed 0 ∷ replicate 5 (nil_after 0); clock = 0 }

abbrev flag_beside : State
flag_beside = both (record { isa = 1; slots = replicate 8 0; delay = 0; error = true }) (nil_after 0)

-- retry's runs from its opening, and the numbers of all calls from a state
abbrev opened : Opened
opened = open_of retry (replicate 18 0)

abbrev numbers : State → List ℕ
numbers s = (run_of retry s (replicate 18 0) 1).number ∷ (refresh_of retry s 1 (replicate 18 0)).number ∷ (fresh_of retry s 1).number ∷ []

unfoldable pub rows : List Row
unfolding everything image wide joined retry
rows =
    -- "0 busy (delay above 0), 1 free (delay 0), 2 error (visible, flag set)"
    row (found busy) (0 ∷ 1 ∷ 0 ∷ 1 ∷ 0 ∷ 1 ∷ [])
    ∷ row (found free) (1 ∷ 0 ∷ 1 ∷ 0 ∷ 1 ∷ 0 ∷ [])
    ∷ row (found error) (0 ∷ 0 ∷ 0 ∷ 0 ∷ 1 ∷ 0 ∷ [])
    -- "For a match queries must hold too": beside a test, two of them, and of the buffer that is tested
    ∷ row (entry_of (asking (tests1 0 (one v0) ∷ []) (ask 1 free ∷ []) []) (beside (nil_after 0))) (1 ∷ 3 ∷ replicate 7 0)
    ∷ row (entry_of (asking (tests1 0 (one v0) ∷ []) (ask 1 free ∷ []) []) (beside (nil_after 1))) (replicate 9 0)
    ∷ row (entry_of (asking (tests1 1 (one v0) ∷ []) (ask 0 free ∷ []) []) (beside (nil_after 0))) (replicate 9 0)
    ∷ row (entry_of (asking [] (ask 0 free ∷ ask 1 error ∷ []) []) (beside (failed 0))) (1 ∷ replicate 8 0)
    ∷ row (entry_of (asking [] (ask 0 free ∷ ask 1 error ∷ []) []) (beside (nil_after 0))) (replicate 9 0)
    ∷ row (entry_of (asking [] (ask 0 busy ∷ ask 1 error ∷ []) []) (beside (failed 0))) (replicate 9 0)
    ∷ row (entry_of (asking (tests_nil 1 ∷ []) (ask 1 error ∷ []) []) (beside (failed 0))) (1 ∷ replicate 8 0)
    ∷ row (entry_of (asking (tests_nil 1 ∷ []) (ask 1 busy ∷ []) []) (beside (nil_after 5))) (replicate 9 0)
    -- "It is set when a request finds no fact": on a clear flag and on a set one; and all requests mark
    ∷ row (steps (when_free (requests 9)) (beside (nil_after 0))) (1 ∷ 2 ∷ 1 ∷ 3 ∷ 0 ∷ 0 ∷ 0 ∷ 0 ∷ 70 ∷ 1 ∷ [])
    ∷ row (steps (when_free (requests 9)) (beside (failed 0))) (1 ∷ 2 ∷ 1 ∷ 3 ∷ 0 ∷ 0 ∷ 0 ∷ 0 ∷ 70 ∷ 1 ∷ [])
    -- "any other action on that buffer clears it": a request that finds one, a clear, a modify that changes nothing else
    ∷ row (steps (when_free (requests 5)) (beside (failed 0))) (1 ∷ 2 ∷ 1 ∷ 3 ∷ 0 ∷ 0 ∷ 1 ∷ 5 ∷ 20 ∷ 0 ∷ [])
    ∷ row (steps (when_free (act 1 deed_clear ∷ [])) (beside (failed 9))) (1 ∷ 2 ∷ 1 ∷ 3 ∷ 0 ∷ 0 ∷ 0 ∷ 0 ∷ 0 ∷ 0 ∷ [])
    ∷ row (steps (asking (tests_nil 1 ∷ []) (ask 1 error ∷ []) (act 1 (deed_modify []) ∷ [])) (beside (failed 0))) (1 ∷ 2 ∷ 1 ∷ 3 ∷ 0 ∷ 0 ∷ 0 ∷ 0 ∷ 0 ∷ 0 ∷ [])
    -- an action on another buffer leaves it, visible, on its way, and as it arrives
    ∷ row (steps (when_free (act 0 deed_clear ∷ [])) (beside (failed 0))) (1 ∷ 1 ∷ 0 ∷ 0 ∷ 0 ∷ 0 ∷ 0 ∷ 0 ∷ 0 ∷ 1 ∷ [])
    ∷ row (steps (when_free (act 0 deed_clear ∷ [])) (beside (failed 60))) (1 ∷ 1 ∷ 0 ∷ 0 ∷ 0 ∷ 0 ∷ 0 ∷ 0 ∷ 10 ∷ 1 ∷ [])
    ∷ row (steps (when_free []) (beside (failed 50))) (1 ∷ 2 ∷ 1 ∷ 3 ∷ 0 ∷ 0 ∷ 0 ∷ 0 ∷ 0 ∷ 1 ∷ [])
    -- and so does a wait, of a set flag and of a clear one
    ∷ row (steps (asking [] (ask 1 error ∷ []) []) (beside (failed 30))) (1 ∷ 2 ∷ 1 ∷ 3 ∷ 0 ∷ 0 ∷ 0 ∷ 0 ∷ 0 ∷ 1 ∷ [])
    ∷ row (steps (asking [] (ask 1 error ∷ []) []) (beside (nil_after 30))) (1 ∷ 2 ∷ 1 ∷ 3 ∷ 0 ∷ 0 ∷ 0 ∷ 0 ∷ 0 ∷ 0 ∷ [])
    -- "tests" means "tests or queries": counted and renewed, or left word for word
    ∷ row (renewed 2) (1 ∷ 1 ∷ replicate 8 0 ++ replicate 9 7)
    ∷ row (renewed 1) (1 ∷ replicate 9 7 ++ (1 ∷ replicate 8 0))
    ∷ row (renewed 3) (2 ∷ 1 ∷ replicate 8 0 ++ (1 ∷ replicate 8 0))
    ∷ row (renewed 0) (0 ∷ replicate 18 7)
    -- "a set flag beside a chunk other than nil, or past the buffer count, is 6"; a flag beside nil, visible or pending, is not
    ∷ row
    (map (λ s. bool (well_formed (model [] []) s)) (both (failed 0) (failed 70) ∷ flag_beside ∷ flag_past ∷ beside (record { isa = 1; slots = 2 ∷ replicate 7 0; delay = 3; error = true }) ∷ []))
    (1 ∷ 0 ∷ 0 ∷ 0 ∷ [])
    ∷ row (numbers flag_beside ++ numbers flag_past ++ numbers (both (failed 0) (failed 70))) (6 ∷ 6 ∷ 6 ∷ 6 ∷ 6 ∷ 6 ∷ 0 ∷ 0 ∷ 0 ∷ [])
    -- "Opening flags are clear", and a run that asks again after each failure: the request, its end, the clear, the request, its end
    ∷ row (map (λ (b : Buffer). bool b.error) opened.state.buffers) (replicate 8 0)
    ∷ row (output (lines_of (trace_of retry opened.state opened.table 5))) (
    1 ∷ 50 ∷ 0
    ∷ 2 ∷ 120 ∷ 70
    ∷ 1 ∷ 170 ∷ 1
    ∷ 1 ∷ 220 ∷ 0
    ∷ 2 ∷ 290 ∷ 70
    ∷ 3 ∷ 0 ∷ 5 ∷ [])
    -- "A rule may have no test if it has a query; without tests a query count of 0 breaks its rule", at the count; with a test it does not
    ∷ row (judged 2 (head_of 0 0 0 0 ++ (f 4 1 ∷ query_of 0 0))) (0 ∷ 0 ∷ [])
    ∷ row (judged 2 (head_of 0 0 0 0 ++ (f 4 0 ∷ []))) (3 ∷ 97 ∷ [])
    ∷ row (judged 2 (head_of 0 1 0 0 ++ test_nil ++ (f 4 0 ∷ []))) (0 ∷ 0 ∷ [])
    -- "0 to the buffer count": 2 and 3; "a buffer, strictly rising": 13 for one that is not there, the same again, a lower one; "3 is refused as 3"
    ∷ row (judged 2 (head_of 0 0 0 0 ++ (f 4 2 ∷ query_of 0 0 ++ query_of 1 2))) (0 ∷ 0 ∷ [])
    ∷ row (judged 2 (head_of 0 0 0 0 ++ (f 4 3 ∷ query_of 0 0 ++ query_of 1 2))) (3 ∷ 97 ∷ [])
    ∷ row (judged 2 (head_of 0 0 0 0 ++ (f 4 1 ∷ query_of 2 0))) (13 ∷ 101 ∷ [])
    ∷ row (judged 2 (head_of 0 0 0 0 ++ (f 4 2 ∷ query_of 1 0 ++ query_of 1 0))) (13 ∷ 106 ∷ [])
    ∷ row (judged 2 (head_of 0 0 0 0 ++ (f 4 2 ∷ query_of 1 0 ++ query_of 0 0))) (13 ∷ 106 ∷ [])
    ∷ row (judged 2 (head_of 0 0 0 0 ++ (f 4 1 ∷ query_of 1 3))) (3 ∷ 104 ∷ [])
    -- a query whose kind is past the end
    ∷ row (judged 2 (head_of 0 0 0 0 ++ (f 4 1 ∷ []))) (2 ∷ 104 ∷ [])
    -- "The check on variables stands where the tests end, before the queries": a count that is bad, and one that is not there
    ∷ row (judged 2 (head_of 0 1 0 1 ++ test_nil ++ (f 4 9 ∷ []))) (12 ∷ 114 ∷ [])
    ∷ row (judged 2 (head_of 0 1 0 2 ++ test_variable)) (12 ∷ 127 ∷ [])
    ∷ row (judged 2 (head_of 0 1 0 1 ++ test_variable ++ (f 4 0 ∷ []))) (0 ∷ 0 ∷ [])
    -- a buffer that is only queried is untested for a modify
    ∷ row (judged 2 (head_of 0 0 1 0 ++ (f 4 1 ∷ query_of 1 1) ++ (f 3 1 ∷ f 2 0 ∷ f 8 0 ∷ []))) (13 ∷ 109 ∷ [])
    -- "Version 1 images open as before, with no queries": no test is 3 there, and after the tests come the actions
    ∷ row (judged 1 (head_of 0 0 0 0 ++ (f 4 1 ∷ query_of 0 0))) (3 ∷ 85 ∷ [])
    ∷ row (judged 1 (head_of 0 1 1 0 ++ test_nil ++ clears1)) (0 ∷ 0 ∷ [])
    ∷ row (judged 2 (head_of 0 1 1 0 ++ test_nil ++ clears1)) (3 ∷ 114 ∷ [])
    -- only versions 1 and 2 open
    ∷ row (judged 0 (head_of 0 1 0 0 ++ test_nil) ++ judged 3 (head_of 0 1 0 0 ++ test_nil) ++ judged 4 (head_of 0 1 0 0 ++ test_nil) ++ judged 255 (head_of 0 1 0 0 ++ test_nil))
    (3 ∷ 0 ∷ 3 ∷ 0 ∷ 3 ∷ 0 ∷ 3 ∷ 0 ∷ [])
    ∷ []

-- every row's two sides are the same
pub asked : map (λ (r : Row). r.given) rows ≡ map (λ (r : Row). r.said) rows
unfolding rows
asked = refl
