-- Change request 2026-05, on both sides of the line: what joins the store, what is refused, and how the words are left. One table under a single statement.
use Rattle.std.specs.Prelude.{◌≡◌, refl, Bool, true, false, ◌&&◌, List, [], ◌∷◌, ◌++◌, map, ℕ, ◌+◌, length, get_or, replicate, take, drop, ℤ, pos}
use Rattle.std.proofs.Math.Option.{Option, none, some}
use Rattle.meaning.specs.declared.Buffer.{Buffer}
use Rattle.meaning.specs.declared.State.{State}
use Rattle.meaning.specs.Base.{up_from, same}
use Rattle.meaning.specs.Model.{Model, Rule, Action, Deed, deed_clear, deed_request, deed_modify, Chunk, Term, symbol}
use Rattle.meaning.specs.State.{nil_after, zero_state, buffer_of}
use Rattle.meaning.specs.Match.{fresh_table}
use Rattle.meaning.specs.Run.{Going, going, Run, run_from}
use Rattle.meaning.specs.Store.{places_words}
use Rattle.meaning.specs.Calls.{Ran, WithStore, open_of, run_lent}
use Rattle.meaning.specs.Fresh.{Moving, moving, FreshRan, fresh_from, fresh_lent}
use Rattle.meaning.specs.Examples.{everything, Row, p1, model_a, output}
use Rattle.meaning.specs.Print.{printed}
use Rattle.meaning.specs.Telling.{holds, both, tests1, act, rule, fact, model, buffer_words, row, one}

-- ---- chunks of type 1, a store full of others, and a run in words: its number, its steps, and each chunk that it leaves in the store, by three words

abbrev pair : ℕ → ℕ → Chunk
pair x y = record { isa = 1; slots = x ∷ y ∷ replicate 6 0 }

-- so many chunks, no two alike
abbrev many : ℕ → List Chunk
many n = map (λ x. pair (x + 100) 1) (up_from 0 n)

abbrev tops : List Chunk → List ℕ
tops [] = []
tops (c ∷ cs) = c.isa ∷ take 2 c.slots ++ tops cs

-- 99 where there is no store
abbrev tops_of : Option (List Chunk) → List ℕ
tops_of none = 99 ∷ []
tops_of (some cs) = tops cs

abbrev kept : Model → ℕ → State → Option (List Chunk) → Run Going
kept m n s store = run_from m n (going s (fresh_table m.rules s) store)

abbrev alone : Model → ℕ → State → Option (List Chunk) → Run Moving
alone m n s store = fresh_from m n (moving s store)

-- both runs, the one with a table first
abbrev runs : Model → ℕ → State → Option (List Chunk) → List ℕ
runs m n s store =
    let k : Run Going = kept m n s store in
    let a : Run Moving = alone m n s store in
    (k.number ∷ length k.events ∷ tops_of k.left.store) ++ (a.number ∷ length a.events ∷ tops_of a.left.store)

abbrev two_times : List ℕ → List ℕ
two_times ws = ws ++ ws

-- of both runs the number, the steps, and how many chunks are left
abbrev counts : Model → ℕ → State → Option (List Chunk) → List ℕ
counts m n s store =
    let k : Run Going = kept m n s store in
    let a : Run Moving = alone m n s store in
    (k.number ∷ length k.events ∷ size k.left.store ∷ []) ++ (a.number ∷ length a.events ∷ size a.left.store ∷ [])
  where
    size : Option (List Chunk) → ℕ
    size none = 999
    size (some cs) = length cs

-- what both runs leave in a buffer
abbrev leaves : ℕ → Model → ℕ → State → Option (List Chunk) → List ℕ
leaves b m n s store = buffer_words (buffer_of (kept m n s store).left.state b) ++ buffer_words (buffer_of (alone m n s store).left.state b)

-- ---- rules that test buffer 0 for type 1, with these actions

abbrev does : List Action → Rule
does as' = rule (pos 0) (tests1 0 [] ∷ []) as'

-- clears buffer 0; clears both; asks memory for a chunk whose slot 0 is 6, into buffer 1, and clears buffer 0 in the same step
abbrev clears : Rule
clears = does (act 0 deed_clear ∷ [])

abbrev clears_both : Rule
clears_both = does (act 0 deed_clear ∷ act 1 deed_clear ∷ [])

abbrev six : Term
six = symbol 6

abbrev clears_and_asks : Rule
clears_and_asks = does (act 0 deed_clear ∷ act 1 (deed_request 1 (one six)) ∷ [])

-- writes 6 into slot 0 of buffer 0, and clears buffer 1 in the same step
abbrev modifies_and_clears : Rule
modifies_and_clears = rule (pos 0) (tests1 0 [] ∷ tests1 1 [] ∷ []) (act 0 (deed_modify (one six)) ∷ act 1 deed_clear ∷ [])

-- asks for it once buffer 0 is empty
abbrev asks_when_empty : Rule
asks_when_empty = rule (pos 0) (record { buffer = 0; isa = 0; named = [] } ∷ []) (act 1 (deed_request 1 (one six)) ∷ [])

abbrev at : ℕ → State → State
at clock s = record { buffers = s.buffers; clock = clock }

-- buffers as document 01's cases have them: type 1 with two slots in buffers 0 and 1
abbrev goal : State
goal = both (holds 6 7 0) (nil_after 0)

abbrev alike : State
alike = both (holds 6 7 0) (holds 6 7 0)

-- ---- words of a store: the count, these chunks, and places that hold 77 in every word

unfoldable words_of : ℕ → List Chunk → List ℕ
unfolding places_words
words_of count cs = take 2305 (count ∷ places_words cs ++ replicate 2304 77)

-- model A's opening, with words beside it that a word says are lent
abbrev a_lent : ℕ → List ℕ → WithStore Ran
a_lent lent words = run_lent model_a (open_of model_a (replicate 27 0)).state (open_of model_a (replicate 27 0)).table 1000 lent words

abbrev a_fresh : ℕ → List ℕ → WithStore FreshRan
a_fresh lent words = fresh_lent model_a (open_of model_a (replicate 27 0)).state 1000 lent words

-- the number by which model A's two runs end with a store of these words, and 1 if both leave the words unaltered, else 0
abbrev judged : List ℕ → List ℕ
judged words = (a_lent 1 words).answer.number ∷ (a_fresh 1 words).answer.number ∷ whole (same (a_lent 1 words).store words && same (a_fresh 1 words).store words) ∷ []
  where
    whole : Bool → ℕ
    whole true = 1
    whole false = 0

-- a place with these first words and zeros after them
abbrev placed : List ℕ → List ℕ
placed ws = 1 ∷ take 9 (ws ++ replicate 9 0) ++ replicate 2295 77

-- what a call leaves: its number, the steps, the clock, how many words, the first 30 and the last of them
abbrev called_of : WithStore Ran → List ℕ
called_of r = r.answer.number ∷ r.answer.made ∷ r.answer.state.clock ∷ length r.store ∷ take 30 r.store ++ drop 2304 r.store

-- an image that clears a chunk and then asks for it, packed from this text: "failure latency 70", "type task", "type thing colour", "buffer goal task",
-- "buffer retrieval thing colour red", "rule forget": "=retrieval> thing", "==>", "-retrieval>",
-- "rule recall": "=goal> task", "=retrieval> chunk", "==>", "-goal>", "+retrieval> thing colour red"
unfoldable forgets : List ℕ
forgets =
    0x01 ∷ 0x20 ∷ 0x80 ∷ 0x40 ∷ 0x00 ∷ 0x02 ∷ 0x30 ∷ 0x08 ∷ 0x21 ∷ 0x00 ∷ 0x08 ∷ 0x00 ∷ 0x00 ∷ 0x88 ∷ 0x10
    ∷ 0x80 ∷ 0x0c ∷ 0x00 ∷ 0x00 ∷ 0x44 ∷ 0x00 ∷ 0x10 ∷ 0x02 ∷ 0x00 ∷ 0x00 ∷ 0x8a ∷ 0x14 ∷ 0x00 ∷ 0x00 ∷ 0x40 ∷ []

-- model A ends by 9 after 7 steps, at 550 ms, and knows the goal that its last rule cleared
abbrev a_learned : List ℕ
a_learned = 9 ∷ 7 ∷ 550 ∷ 2305 ∷ 1 ∷ 2 ∷ 3 ∷ 3 ∷ replicate 6 0 ++ replicate 21 77

unfoldable pub rows : List Row
unfolding everything p1 model_a words_of forgets
rows =
    -- "When a clear action empties a visible buffer holding another chunk than nil, that chunk joins the store"
    row (runs (model [] (clears ∷ [])) 9 goal (some [])) (two_times (9 ∷ 1 ∷ 1 ∷ 6 ∷ 7 ∷ []))
    -- where none is lent nothing is learned
    ∷ row (runs (model [] (clears ∷ [])) 9 goal none) (two_times (9 ∷ 1 ∷ 99 ∷ []))
    -- "Pending chunks and requests store nothing": a pending chunk cleared; nil cleared; a request and a modify that replace a chunk
    ∷ row (runs (model [] (clears_both ∷ [])) 1 (both (holds 6 7 0) (holds 8 9 30)) (some [])) (two_times (0 ∷ 1 ∷ 1 ∷ 6 ∷ 7 ∷ []))
    ∷ row (runs (model [] (clears_both ∷ [])) 1 goal (some [])) (two_times (0 ∷ 1 ∷ 1 ∷ 6 ∷ 7 ∷ []))
    ∷ row (runs (model [] (does (act 0 (deed_request 1 []) ∷ []) ∷ [])) 1 goal (some [])) (two_times (0 ∷ 1 ∷ []))
    ∷ row (runs (model [] (does (act 0 (deed_modify (one six)) ∷ []) ∷ [])) 1 goal (some [])) (two_times (0 ∷ 1 ∷ []))
    -- a modify, and a request, that replace a chunk in the step in which another is cleared: what was cleared joins, and that alone
    ∷ row (runs (model [] (modifies_and_clears ∷ [])) 1 (both (holds 4 7 0) (holds 8 9 0)) (some [])) (two_times (0 ∷ 1 ∷ 1 ∷ 8 ∷ 9 ∷ []))
    ∷ row (runs (model [] (clears_and_asks ∷ [])) 1 (both (holds 6 7 0) (holds 8 9 0)) (some [])) (two_times (0 ∷ 1 ∷ 1 ∷ 6 ∷ 7 ∷ []))
    -- "visible .. before the step": a chunk that would have arrived within the 50 ms
    ∷ row (runs (model [] (clears_both ∷ [])) 1 (both (holds 6 7 0) (holds 8 9 50)) (some [])) (two_times (0 ∷ 1 ∷ 1 ∷ 6 ∷ 7 ∷ []))
    -- "unless a fact with the same type and slots stands in the image or the store": whatever its activation; one slot apart is another chunk
    ∷ row (runs (model (fact 6 7 5 10 ∷ []) (clears ∷ [])) 1 goal (some [])) (two_times (0 ∷ 1 ∷ []))
    ∷ row (runs (model [] (clears ∷ [])) 1 goal (some (pair 6 7 ∷ []))) (two_times (0 ∷ 1 ∷ 1 ∷ 6 ∷ 7 ∷ []))
    ∷ row (runs (model (fact 6 8 5 10 ∷ []) (clears ∷ [])) 1 goal (some (pair 5 7 ∷ []))) (two_times (0 ∷ 1 ∷ 1 ∷ 5 ∷ 7 ∷ 1 ∷ 6 ∷ 7 ∷ []))
    -- "Several clears in a step go by rising buffer number, so equal chunks are stored once"
    ∷ row (runs (model [] (clears_both ∷ [])) 1 alike (some [])) (two_times (0 ∷ 1 ∷ 1 ∷ 6 ∷ 7 ∷ []))
    ∷ row (runs (model [] (clears_both ∷ [])) 1 (both (holds 8 9 0) (holds 6 7 0)) (some (pair 5 5 ∷ []))) (two_times (0 ∷ 1 ∷ 1 ∷ 5 ∷ 5 ∷ 1 ∷ 8 ∷ 9 ∷ 1 ∷ 6 ∷ 7 ∷ []))
    -- cleared and then retrieved: "with activation 0 and latency 50 ms"; with nothing lent the request fails
    ∷ row (leaves 1 (model [] (clears ∷ asks_when_empty ∷ [])) 2 goal (some [])) (two_times (1 ∷ 6 ∷ 7 ∷ 50 ∷ []))
    ∷ row (leaves 1 (model [] (clears ∷ asks_when_empty ∷ [])) 2 goal none) (two_times (0 ∷ 0 ∷ 0 ∷ 70 ∷ []))
    -- "Requests in the same step read the memory as before it": the failure latency
    ∷ row (leaves 1 (model [] (clears_and_asks ∷ [])) 1 goal (some [])) (two_times (0 ∷ 0 ∷ 0 ∷ 70 ∷ []))
    -- "image facts, then store facts numbered after them": of equal activation the image's is found; a learned one by its higher number not
    ∷ row (leaves 1 (model (fact 6 8 0 10 ∷ []) (asks_when_empty ∷ [])) 1 (both (nil_after 0) (nil_after 0)) (some (pair 6 9 ∷ []))) (two_times (1 ∷ 6 ∷ 8 ∷ 10 ∷ []))
    -- of two learned ones the first
    ∷ row (leaves 1 (model [] (asks_when_empty ∷ [])) 1 (both (nil_after 0) (nil_after 0)) (some (pair 6 9 ∷ pair 6 7 ∷ []))) (two_times (1 ∷ 6 ∷ 9 ∷ 50 ∷ []))
    -- "14, a step whose new facts would make more than 256": 255 and one; 256 and one; 256 and a known one; 255 and two; 255 and two alike
    ∷ row (counts (model [] (clears ∷ [])) 1 goal (some (many 255))) (two_times (0 ∷ 1 ∷ 256 ∷ []))
    ∷ row (counts (model [] (clears ∷ [])) 1 goal (some (many 256))) (two_times (14 ∷ 0 ∷ 256 ∷ []))
    ∷ row (counts (model [] (clears ∷ [])) 1 (both (holds 100 1 0) (nil_after 0)) (some (many 256))) (two_times (0 ∷ 1 ∷ 256 ∷ []))
    ∷ row (counts (model [] (clears_both ∷ [])) 1 (both (holds 6 7 0) (holds 8 9 0)) (some (many 255))) (two_times (14 ∷ 0 ∷ 255 ∷ []))
    ∷ row (counts (model [] (clears_both ∷ [])) 1 alike (some (many 255))) (two_times (0 ∷ 1 ∷ 256 ∷ []))
    -- "after 8 and like 8 in all it leaves": of both it is 8; the clock and the chunk are as they were
    ∷ row (counts (model [] (clears ∷ [])) 1 (at 4294967246 goal) (some (many 256))) (two_times (8 ∷ 0 ∷ 256 ∷ []))
    ∷ row (leaves 0 (model [] (clears ∷ [])) 1 goal (some (many 256))) (two_times (1 ∷ 6 ∷ 7 ∷ 0 ∷ []))
    ∷ row
    ((kept (model [] (clears ∷ [])) 1 goal (some (many 256))).left.state.clock ∷ (alone (model [] (clears ∷ [])) 1 goal (some (many 256))).left.state.clock ∷ [])
    (1000 ∷ 1000 ∷ [])
    -- the calls: model A's lines are the same, and it remembers the goal that its last rule clears; the places past the count stay
    ∷ row (called_of (a_lent 1 (words_of 0 []))) a_learned
    -- the word's lowest bit says it, whatever the others are
    ∷ row (called_of (a_lent 3 (words_of 0 []))) a_learned
    ∷ row (called_of (a_lent 65535 (words_of 0 []))) a_learned
    -- where the word does not say 1 the words are nothing to the call, whatever they are
    ∷ row (called_of (a_lent 0 (5 ∷ 6 ∷ []))) (9 ∷ 7 ∷ 550 ∷ 2 ∷ 5 ∷ 6 ∷ [])
    ∷ row (called_of (a_lent 2 (5 ∷ 6 ∷ []))) (9 ∷ 7 ∷ 550 ∷ 2 ∷ 5 ∷ 6 ∷ [])
    -- "15, not 256 places, a count over 256": a word less, a word more, no word; 257
    ∷ row (judged (take 2304 (words_of 0 []))) (15 ∷ 15 ∷ 1 ∷ [])
    ∷ row (judged (words_of 0 [] ++ (0 ∷ []))) (15 ∷ 15 ∷ 1 ∷ [])
    ∷ row (judged []) (15 ∷ 15 ∷ 1 ∷ [])
    ∷ row (judged (257 ∷ drop 1 (words_of 0 (many 256)))) (15 ∷ 15 ∷ 1 ∷ [])
    -- "or a fact that the image could not hold": type 0, type 3 of two, 4,096, a value past the type's two slots; what it could hold; twice the same
    ∷ row (judged (placed (0 ∷ []))) (15 ∷ 15 ∷ 1 ∷ [])
    ∷ row (judged (placed (3 ∷ []))) (15 ∷ 15 ∷ 1 ∷ [])
    ∷ row (judged (placed (2 ∷ 4096 ∷ []))) (15 ∷ 15 ∷ 1 ∷ [])
    ∷ row (judged (placed (2 ∷ 1 ∷ 1 ∷ 1 ∷ []))) (15 ∷ 15 ∷ 1 ∷ [])
    ∷ row (judged (placed (2 ∷ 4095 ∷ 4095 ∷ []))) (9 ∷ 9 ∷ 0 ∷ [])
    ∷ row (judged (words_of 2 (pair 6 7 ∷ pair 6 7 ∷ []))) (9 ∷ 9 ∷ 0 ∷ [])
    -- "after 6": a state that is not well formed, and a store that is not one; before it the image's numbers and 5
    ∷ row ((run_lent p1 goal [] 1 1 []).answer.number ∷ (run_lent (take 7 p1) goal [] 1 1 []).answer.number ∷ (run_lent p1 goal (0 ∷ []) 1 1 []).answer.number ∷ []) (6 ∷ 2 ∷ 5 ∷ [])
    -- "Run with 0 steps asked answers 0 after checks 1 to 6", and 15
    ∷ row ((run_lent p1 zero_state [] 0 1 []).answer.number ∷ (run_lent p1 zero_state [] 0 1 (words_of 0 [])).answer.number ∷ []) (15 ∷ 0 ∷ [])
    -- "The printing program lends an empty store, so a printed run learns": what was cleared is there after 50 ms, and is cleared again
    ∷ row (output (printed forgets)) (
    1 ∷ 50 ∷ 0
    ∷ 1 ∷ 100 ∷ 1
    ∷ 2 ∷ 150 ∷ 50
    ∷ 1 ∷ 200 ∷ 0
    ∷ 3 ∷ 9 ∷ 4 ∷ [])
    ∷ []

-- every row's two sides are the same
pub remembering : map (λ (r : Row). r.given) rows ≡ map (λ (r : Row). r.said) rows
unfolding rows
remembering = refl
