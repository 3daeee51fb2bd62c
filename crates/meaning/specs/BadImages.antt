-- Request 2026-03, "say where an image is bad": model A with one field, or two neighbours, set to another value, the number and the position. One table under a single statement.
use Rattle.std.specs.Prelude.{if◌then◌else◌, ◌≡◌, refl, false, ◌&&◌, List, [], ◌∷◌, ◌++◌, map, ℕ, zero, suc, ◌+◌, ◌-◌, ◌*◌, ◌/◌, ◌%◌, ◌^◌, ltb, leb, length, replicate, take}
use Rattle.meaning.specs.declared.State.{State}
use Rattle.meaning.specs.Base.{up_from}
use Rattle.meaning.specs.Numbers.{coarse}
use Rattle.meaning.specs.State.{zero_state}
use Rattle.meaning.specs.Model.{Model}
use Rattle.meaning.specs.Bits.{bit_at}
use Rattle.meaning.specs.Read.{Read, read_refused, read_got}
use Rattle.meaning.specs.Image.{decode, decode_by}
use Rattle.meaning.specs.Calls.{needed_of, open_of, run_of, refresh_of}
use Rattle.meaning.specs.Fresh.{fresh_of}
use Rattle.meaning.specs.Print.{printed}
use Rattle.meaning.specs.Examples.{everything, model_a, p1, Row, output}
use Rattle.meaning.specs.Telling.{row}

-- ---- model A with the field at a bit, of so many bits, set to a value

-- n bits from p on as a number, most significant bit first
unfoldable packed : (ℕ → ℕ) → ℕ → ℕ → ℕ
packed bits p zero = 0
packed bits p (suc n) = packed bits p n * 2 + bits (p + n)

-- bit p: the value's, within the field, else model A's
abbrev bit_in : ℕ → ℕ → ℕ → ℕ → ℕ
bit_in at width value p = if leb at p && ltb p (at + width) then value / 2 ^ (at + width - 1 - p) % 2 else bit_at model_a p

unfoldable set : ℕ → ℕ → ℕ → List ℕ
unfolding packed model_a
set at width value = map (λ byte. packed (bit_in at width value) (8 * byte) 8) (up_from 0 (length model_a))

-- the number and the position of a refusal; two zeros for an image that is accepted
abbrev placed : Read Model → List ℕ
placed (read_refused n at) = n ∷ at ∷ []
placed (read_got m at) = 0 ∷ 0 ∷ []

-- a mask with a bit past the type's slots, and a state that is not well formed: a value beside type 0
unfoldable bad : List ℕ
unfolding set
bad = set 258 8 160

abbrev unfit : State
unfit = record { buffers = replicate 8 (record { isa = 0; slots = replicate 8 1; delay = 0; error = false }); clock = 0 }

-- ---- the cases

unfoldable pub rows : List Row
unfolding everything model_a p1 set packed bad
rows =
    -- "3 now means a version, count, type or action kind": version 3; no buffer; 257 rules; 513 facts; 9 slots; of rule 0 no test, 3 actions, 9 variables
    row (placed (decode (set 0 8 3))) (3 ∷ 0 ∷ [])
    ∷ row (placed (decode (set 8 4 0))) (3 ∷ 8 ∷ [])
    ∷ row (placed (decode (set 18 9 257))) (3 ∷ 18 ∷ [])
    ∷ row (placed (decode (set 27 10 513))) (3 ∷ 27 ∷ [])
    ∷ row (placed (decode (set 57 4 9))) (3 ∷ 57 ∷ [])
    ∷ row (placed (decode (set 237 4 0))) (3 ∷ 237 ∷ [])
    ∷ row (placed (decode (set 241 4 3))) (3 ∷ 241 ∷ [])
    ∷ row (placed (decode (set 245 4 9))) (3 ∷ 245 ∷ [])
    -- and the limits that they pass: 9 buffers and 3 tests are too many; 256 rules, 512 facts, 8 slots, 8 variables are not, and what follows them is refused
    ∷ row (placed (decode (set 8 4 9))) (3 ∷ 8 ∷ [])
    ∷ row (placed (decode (set 237 4 3))) (3 ∷ 237 ∷ [])
    ∷ row (placed (decode (set 18 9 256))) (2 ∷ 563 ∷ [])
    ∷ row (placed (decode (set 27 10 512))) (3 ∷ 221 ∷ [])
    ∷ row (placed (decode (set 57 4 8))) (3 ∷ 163 ∷ [])
    ∷ row (placed (decode (set 245 4 8))) (12 ∷ 296 ∷ [])
    -- types: of an opening chunk, of a fact (3, and 0), of a test, of a request (3, and 0); kind 3, on a tested buffer and on an untested one
    ∷ row (placed (decode (set 61 6 3))) (3 ∷ 61 ∷ [])
    ∷ row (placed (decode (set 97 6 3))) (3 ∷ 97 ∷ [])
    ∷ row (placed (decode (set 159 6 0))) (3 ∷ 159 ∷ [])
    ∷ row (placed (decode (set 252 6 3))) (3 ∷ 252 ∷ [])
    ∷ row (placed (decode (set 301 6 3))) (3 ∷ 301 ∷ [])
    ∷ row (placed (decode (set 460 6 0))) (3 ∷ 460 ∷ [])
    ∷ row (placed (decode (set 561 2 3))) (3 ∷ 561 ∷ [])
    ∷ row (placed (decode (set 558 5 7))) (3 ∷ 561 ∷ [])
    -- "11 a mask bit past the type's slots": of a test, of a test of type 0, of a modify, of a request; the position is that of the mask, not of the bit
    ∷ row (placed (decode bad)) (11 ∷ 258 ∷ [])
    ∷ row (placed (decode (set 288 8 1))) (11 ∷ 288 ∷ [])
    ∷ row (placed (decode (set 434 8 129))) (11 ∷ 434 ∷ [])
    ∷ row (placed (decode (set 466 8 32))) (11 ∷ 466 ∷ [])
    -- "12 a variable not below the count": at the term's kind bit; in a test, in a modify, in a request
    ∷ row (placed (decode (set 266 13 4097))) (12 ∷ 266 ∷ [])
    ∷ row (placed (decode (set 442 13 4098))) (12 ∷ 442 ∷ [])
    ∷ row (placed (decode (set 315 13 4104))) (12 ∷ 315 ∷ [])
    -- "or in no test": "the bit after the last test"; of rule 0, whose last test names no slot, and of rule 2
    ∷ row (placed (decode (set 245 4 2))) (12 ∷ 296 ∷ [])
    ∷ row (placed (decode (set 511 4 2))) (12 ∷ 558 ∷ [])
    -- "13 a buffer that does not exist": of a test, of an action; "does not rise": the second test, the second action
    ∷ row (placed (decode (set 279 3 2))) (13 ∷ 279 ∷ [])
    ∷ row (placed (decode (set 296 3 7))) (13 ∷ 296 ∷ [])
    ∷ row (placed (decode (set 386 3 0))) (13 ∷ 386 ∷ [])
    ∷ row (placed (decode (set 455 3 0))) (13 ∷ 455 ∷ [])
    -- "or is modified untested (at the kind field)": rule 2 modifies buffer 1, which it does not test
    ∷ row (placed (decode (set 558 5 4))) (13 ∷ 561 ∷ [])
    -- accepted: an untested buffer is cleared; a mask names the last slot of its type; the largest symbol
    ∷ row (placed (decode (set 558 5 6)) ++ placed (decode (set 434 8 64)) ++ placed (decode (set 545 13 4095))) (0 ∷ 0 ∷ 0 ∷ 0 ∷ 0 ∷ 0 ∷ [])
    -- of two bad fields the earlier: a buffer and a type; a type and a mask; a mask and a byte that follows
    ∷ row (placed (decode (set 249 9 131))) (13 ∷ 249 ∷ [])
    ∷ row (placed (decode (set 252 14 928))) (3 ∷ 252 ∷ [])
    ∷ row (placed (decode (bad ++ (0 ∷ [])))) (11 ∷ 258 ∷ [])
    -- "2": an image that ends within a field, at the field's first bit: the empty one, within the counts, within the rules, within the last action's buffer
    ∷ row (placed (decode [])) (2 ∷ 0 ∷ [])
    ∷ row (placed (decode (take 3 model_a))) (2 ∷ 18 ∷ [])
    ∷ row (placed (decode (take 40 model_a))) (2 ∷ 315 ∷ [])
    ∷ row (placed (decode (take 70 model_a))) (2 ∷ 558 ∷ [])
    -- the earlier in reading order: a variable in no test, where the image ends right after the tests; with 1 variable it is 2 there
    ∷ row (placed (decode (take 37 (set 245 4 2)))) (12 ∷ 296 ∷ [])
    ∷ row (placed (decode (take 37 model_a))) (2 ∷ 296 ∷ [])
    -- and a field is judged once it is wholly there: the mask, and before it the buffer count
    ∷ row (placed (decode (take 33 bad)) ++ placed (decode (take 34 bad)) ++ placed (decode (take 2 (set 8 4 0)))) (2 ∷ 258 ∷ 11 ∷ 258 ∷ 3 ∷ 8 ∷ [])
    -- "else 0": a pad bit is 1; a byte follows
    ∷ row (placed (decode (set 567 1 1))) (4 ∷ 0 ∷ [])
    ∷ row (placed (decode (model_a ++ (0 ∷ [])))) (4 ∷ 0 ∷ [])
    -- "else 0": a table of another length; a state that is not well formed; a mark too large; a stale entry; halted
    ∷ row ((open_of model_a []).number ∷ (open_of model_a []).position ∷ []) (5 ∷ 0 ∷ [])
    ∷ row ((run_of model_a unfit (replicate 27 0) 1).number ∷ (run_of model_a unfit (replicate 27 0) 1).position ∷ []) (6 ∷ 0 ∷ [])
    ∷ row ((fresh_of model_a unfit 1).number ∷ (fresh_of model_a unfit 1).position ∷ []) (6 ∷ 0 ∷ [])
    ∷ row ((refresh_of model_a zero_state 4 (replicate 27 0)).number ∷ (refresh_of model_a zero_state 4 (replicate 27 0)).position ∷ []) (10 ∷ 0 ∷ [])
    ∷ row ((run_of model_a zero_state (replicate 27 1) 1).number ∷ (run_of model_a zero_state (replicate 27 1) 1).position ∷ []) (7 ∷ 0 ∷ [])
    ∷ row ((fresh_of model_a zero_state 1).number ∷ (fresh_of model_a zero_state 1).position ∷ []) (9 ∷ 0 ∷ [])
    -- "else 0": all that was asked is done; the table's length of model A, and of an image without rules, which its number tells from one that is refused
    ∷ row ((open_of model_a (replicate 27 0)).number ∷ (open_of model_a (replicate 27 0)).position ∷ []) (0 ∷ 0 ∷ [])
    ∷ row ((needed_of model_a).number ∷ (needed_of model_a).position ∷ (needed_of model_a).words ∷ []) (0 ∷ 0 ∷ 27 ∷ [])
    ∷ row ((needed_of p1).number ∷ (needed_of p1).position ∷ (needed_of p1).words ∷ []) (0 ∷ 0 ∷ 0 ∷ [])
    -- "from every call": the mask of rule 0's first test, by each of them
    ∷ row ((open_of bad []).number ∷ (open_of bad []).position ∷ (open_of bad []).state.clock ∷ []) (11 ∷ 258 ∷ 0 ∷ [])
    ∷ row ((run_of bad zero_state [] 1).number ∷ (run_of bad zero_state [] 1).position ∷ (run_of bad zero_state [] 1).made ∷ []) (11 ∷ 258 ∷ 0 ∷ [])
    ∷ row ((refresh_of bad zero_state 1 []).number ∷ (refresh_of bad zero_state 1 []).position ∷ (refresh_of bad zero_state 1 []).count ∷ []) (11 ∷ 258 ∷ 0 ∷ [])
    ∷ row ((fresh_of bad zero_state 1).number ∷ (fresh_of bad zero_state 1).position ∷ (fresh_of bad zero_state 1).made ∷ []) (11 ∷ 258 ∷ 0 ∷ [])
    ∷ row ((needed_of bad).number ∷ (needed_of bad).position ∷ (needed_of bad).words ∷ []) (11 ∷ 258 ∷ 0 ∷ [])
    -- the printing program prints the finer number
    ∷ row (output (printed bad)) (3 ∷ 11 ∷ 0 ∷ [])
    -- and by the numbers of 01: one number for all, at the same positions
    ∷ row (placed (decode_by coarse bad) ++ placed (decode_by coarse (set 245 4 2)) ++ placed (decode_by coarse (set 558 5 4))) (3 ∷ 258 ∷ 3 ∷ 296 ∷ 3 ∷ 561 ∷ [])
    ∷ []

-- every row's two sides are the same
pub placing : map (λ (r : Row). r.given) rows ≡ map (λ (r : Row). r.said) rows
unfolding rows
placing = refl
