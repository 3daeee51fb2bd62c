-- Document 01, "On both sides of the line": the examples P1 to P12, as one table under a single statement.
-- The table's two columns are what the definitions give and what document 01 says.
use Rattle.std.specs.Prelude.{if◌then◌else◌, ◌≡◌, refl, List, [], ◌∷◌, ◌++◌, map, ℕ, get_or, replicate, take, drop, ℤ, pos, nat_abs}
use Rattle.std.specs.Int.Signed.{non_neg}
use Rattle.meaning.specs.declared.Buffer.{Buffer}
use Rattle.meaning.specs.declared.State.{State}
use Rattle.meaning.specs.Model.{Model, Rule, Test, Action, Deed, deed_modify, deed_request, deed_clear, Named, Term, variable, Chunk, Fact}
use Rattle.meaning.specs.State.{well_formed, buffer_of}
use Rattle.meaning.specs.Bits.{field_at}
use Rattle.meaning.specs.Read.{read_got, field, times, rising}
use Rattle.meaning.specs.Image.{header, chunk, fact, utility_of, slots_in, terms, masked, head, test, query, queried, deed, action, body, rule}
use Rattle.meaning.specs.Image.{ending, beginning, contents, model, decode, decode_by}
use Rattle.meaning.specs.Match.{places, value_in, matches, entry_of, fresh_table}
use Rattle.meaning.specs.Choice.{candidates, choose}
use Rattle.meaning.specs.Retrieval.{retrieve}
use Rattle.meaning.specs.Fire.{put, done, deed_on, change, fire}
use Rattle.meaning.specs.Wait.{soonest, wait}
use Rattle.meaning.specs.Mark.{mark_of}
use Rattle.meaning.specs.Step.{Event, event_fired, event_waited, fire_step, step}
use Rattle.meaning.specs.Refresh.{refresh, refresh_count}
use Rattle.meaning.specs.Run.{run_from}
use Rattle.meaning.specs.Learning.{cleared, joining}
use Rattle.meaning.specs.Store.{store_in, store_fits, places_words, store_left}
use Rattle.meaning.specs.Calls.{accepted, needed_of, Opened, open_state, open_of, trace_lent, Ran, run_lent, run_of, Refreshed, refresh_of}
use Rattle.meaning.specs.Fresh.{matched, choose_fresh, move, fresh_from, fresh_trace_lent, fresh_lent, fresh_of}
use Rattle.meaning.specs.Print.{Line, stepped, end, printed}

-- `unfolding everything` opens each definition of document 01, and those of the run without a table
unfoldable pub everything : Unit {0}
unfolding well_formed field_at field times rising header chunk fact slots_in terms masked head test query queried deed action body rule
    ending beginning contents model decode_by places value_in matches entry_of fresh_table candidates choose
    retrieve put done deed_on change fire soonest wait mark_of fire_step step refresh refresh_count accepted needed_of open_state open_of run_from trace_lent run_lent run_of refresh_of
    matched choose_fresh move fresh_from fresh_trace_lent fresh_lent fresh_of printed cleared joining store_in store_fits places_words store_left
everything = tt

-- P1's image
unfoldable pub p1 : List ℕ
p1 = 0x01 ∷ 0x10 ∷ 0x00 ∷ 0x00 ∷ 0x00 ∷ 0x00 ∷ 0x00 ∷ 0x00 ∷ []

-- model A's image
unfoldable pub model_a : List ℕ
model_a =
    0x01 ∷ 0x20 ∷ 0x80 ∷ 0x60 ∷ 0x10 ∷ 0x06 ∷ 0x41 ∷ 0x10 ∷ 0x40 ∷ 0x02 ∷ 0x00 ∷ 0x60 ∷ 0x02 ∷ 0x00 ∷ 0x20 ∷ 0x04 ∷ 0x00 ∷ 0x14
    ∷ 0x00 ∷ 0xc8 ∷ 0x08 ∷ 0x01 ∷ 0x00 ∷ 0x18 ∷ 0x00 ∷ 0x50 ∷ 0x03 ∷ 0x20 ∷ 0x00 ∷ 0x01 ∷ 0x08 ∷ 0x80 ∷ 0xa0 ∷ 0x20 ∷ 0x00 ∷ 0x40
    ∷ 0x00 ∷ 0x28 ∷ 0x30 ∷ 0x10 ∷ 0x00 ∷ 0x00 ∷ 0x00 ∷ 0x22 ∷ 0x20 ∷ 0x14 ∷ 0x04 ∷ 0x00 ∷ 0x08 ∷ 0x38 ∷ 0x10 ∷ 0x00 ∷ 0x80 ∷ 0x08
    ∷ 0x20 ∷ 0x20 ∷ 0x02 ∷ 0x50 ∷ 0x60 ∷ 0x20 ∷ 0x02 ∷ 0x07 ∷ 0xd0 ∷ 0x22 ∷ 0x20 ∷ 0x2c ∷ 0x08 ∷ 0x00 ∷ 0x40 ∷ 0x00 ∷ 0x40 ∷ []

-- ---- model A as document 01 tells it

abbrev pair : ℕ → ℕ → ℕ → Chunk
pair isa x y = record { isa = isa; slots = x ∷ y ∷ replicate 6 0 }

-- slot 0 with variable v, and slots 0 and 1 with variables v and w
abbrev one : ℕ → List Named
one v = record { slot = 0; term = variable v } ∷ []

abbrev two : ℕ → ℕ → List Named
two v w = record { slot = 0; term = variable v } ∷ record { slot = 1; term = variable w } ∷ []

-- "Facts of type 1: (1, 2) and (2, 3), each activation 10, latency 100."
abbrev follows : ℕ → ℕ → Fact
follows x y = record { chunk = pair 1 x y; activation = 10; latency = 100 }

-- "Rule 0, utility 0: goal type 2 current v0; retrieval type 0; request retrieval type 1 first v0."
abbrev rule0 : Rule
rule0 =
    record {
      utility = pos 0;
      tests = record { buffer = 0; isa = 2; named = one 0 } ∷ record { buffer = 1; isa = 0; named = [] } ∷ [];
      queries = [];
      actions = record { buffer = 1; deed = deed_request 1 (one 0) } ∷ [];
    }

-- "Rule 1, utility 0: goal type 2 current v0; retrieval type 1 first v0, second v1; modify goal current v1; request retrieval type 1 first v1."
abbrev rule1 : Rule
rule1 =
    record {
      utility = pos 0;
      tests = record { buffer = 0; isa = 2; named = one 0 } ∷ record { buffer = 1; isa = 1; named = two 0 1 } ∷ [];
      queries = [];
      actions = record { buffer = 0; deed = deed_modify (one 1) } ∷ record { buffer = 1; deed = deed_request 1 (one 1) } ∷ [];
    }

-- "Rule 2, utility 1,000: goal type 2 current v0, target v0; clear goal."
abbrev rule2 : Rule
rule2 =
    record {
      utility = pos 1000;
      tests = record { buffer = 0; isa = 2; named = two 0 0 } ∷ [];
      queries = [];
      actions = record { buffer = 0; deed = deed_clear } ∷ [];
    }

-- "buffers 0 goal, 1 retrieval. Type 1 has slots first, second; type 2 has current, target. Failure latency 200. .. Opening: goal is type 2 (1, 3), retrieval nil."
unfoldable pub told_a : Model
told_a =
    record {
      buffers = 2;
      types = 0 ∷ 2 ∷ 2 ∷ [];
      failure = 200;
      opening = pair 2 1 3 ∷ pair 0 0 0 ∷ [];
      facts = follows 1 2 ∷ follows 2 3 ∷ [];
      rules = rule0 ∷ rule1 ∷ rule2 ∷ [];
    }

-- its 71 bytes stand for it, whole: no bit of them can be another
pub model_a-is : decode model_a ≡ read_got told_a 563
unfolding everything model_a told_a
model_a-is = refl

-- ---- P1 to P12

-- answers as words: a buffer is its type, eight slots and delay; a run its number, count and clock; a signed number a sign and its size
abbrev buffer_words : Buffer → List ℕ
buffer_words b = b.isa ∷ b.slots ++ (b.delay ∷ [])

abbrev ran : Ran → List ℕ
ran r = r.number ∷ r.made ∷ r.state.clock ∷ []

abbrev signed : ℤ → List ℕ
signed z = (if non_neg z then 0 else 1) ∷ nat_abs z ∷ []

-- a printed line: 1, the clock and the rule of a firing; 2, the clock and the ms of a wait; 3, the number and the steps made at the end
abbrev pub line_words : Line → List ℕ
line_words (stepped clock (event_fired k)) = 1 ∷ clock ∷ k ∷ []
line_words (stepped clock (event_waited ms)) = 2 ∷ clock ∷ ms ∷ []
line_words (end number made) = 3 ∷ number ∷ made ∷ []

abbrev pub output : List Line → List ℕ
output [] = []
output (l ∷ ls) = line_words l ++ output ls

unfoldable zeros : List ℕ
zeros = replicate 27 0

-- model A after n steps
unfoldable after_a : ℕ → Ran
unfolding everything model_a zeros
after_a n = let o : Opened = open_of model_a zeros in run_of model_a o.state o.table n

-- model A, opened, with another clock, after one step
unfoldable clock_a : ℕ → Ran
unfolding everything model_a zeros
clock_a c = let o : Opened = open_of model_a zeros in run_of model_a (record { buffers = o.state.buffers; clock = c }) o.table 1

-- model A, opened, refreshed with a mark over a table of sevens
unfoldable mark_a : ℕ → Refreshed
unfolding everything model_a zeros
mark_a mark = refresh_of model_a (open_of model_a zeros).state mark (replicate 27 7)

-- a row: what the definitions give, and what the paper says
pub record Row : Type 0 where
  pub given : List ℕ
  pub said : List ℕ

abbrev row : List ℕ → List ℕ → Row
row g s = record { given = g; said = s }

unfoldable pub rows : List Row
unfolding everything p1 model_a zeros after_a clock_a mark_a
rows =
    -- P1 opens; P2 without its last byte; P3 with a ninth byte; P4 last byte 10; P5 last byte 20; empty image; first byte 02, which since request 2026-06 opens, and 04
    row ((open_of p1 []).number ∷ []) (0 ∷ [])
    ∷ row ((open_of (take 7 p1) []).number ∷ []) (2 ∷ [])
    ∷ row ((open_of (p1 ++ (0 ∷ [])) []).number ∷ []) (4 ∷ [])
    ∷ row ((open_of (take 7 p1 ++ (0x10 ∷ [])) []).number ∷ []) (4 ∷ [])
    ∷ row ((open_of (take 7 p1 ++ (0x20 ∷ [])) []).number ∷ []) (3 ∷ [])
    ∷ row ((open_of [] []).number ∷ []) (2 ∷ [])
    ∷ row ((open_of (2 ∷ drop 1 p1) []).number ∷ []) (0 ∷ [])
    ∷ row ((open_of (4 ∷ drop 1 p1) []).number ∷ []) (3 ∷ [])
    -- P6 run 5 on P1: 9, count 0. Run 0: 0
    ∷ row (ran (run_of p1 (open_of p1 []).state [] 5)) (9 ∷ 0 ∷ 0 ∷ [])
    ∷ row (ran (run_of p1 (open_of p1 []).state [] 0)) (0 ∷ 0 ∷ 0 ∷ [])
    -- P7 one step: clock 50, retrieval type 1 (1, 2) with delay 100
    ∷ row (ran (after_a 1) ++ buffer_words (buffer_of (after_a 1).state 1)) (0 ∷ 1 ∷ 50 ∷ 1 ∷ 1 ∷ 2 ∷ 0 ∷ 0 ∷ 0 ∷ 0 ∷ 0 ∷ 0 ∷ 100 ∷ [])
    -- P8 its opening table
    ∷ row (open_of model_a zeros).table (1 ∷ 1 ∷ replicate 25 0)
    -- P9 at clock 350 only rule 2 matches, v0 = 3
    ∷ row (ran (after_a 5) ++ (after_a 5).table) (0 ∷ 5 ∷ 350 ∷ replicate 18 0 ++ (1 ∷ 3 ∷ replicate 7 0))
    -- P10 utility field 8000 hex is -32,768; FFFF is -1
    ∷ row (signed (utility_of 0x8000)) (1 ∷ 32768 ∷ [])
    ∷ row (signed (utility_of 0xffff)) (1 ∷ 1 ∷ [])
    -- P11 firing at clock 4,294,967,245 reaches the largest clock; at 4,294,967,246: 8
    ∷ row (ran (clock_a 4294967245)) (0 ∷ 1 ∷ 4294967295 ∷ [])
    ∷ row (ran (clock_a 4294967246)) (8 ∷ 0 ∷ 4294967246 ∷ [])
    -- P12 refresh with mark 2: count 2, rule 2's entry untouched. Mark 1: count 3. Mark 4: 10
    ∷ row ((mark_a 2).number ∷ (mark_a 2).count ∷ drop 18 (mark_a 2).table) (0 ∷ 2 ∷ replicate 9 7)
    ∷ row ((mark_a 1).number ∷ (mark_a 1).count ∷ []) (0 ∷ 3 ∷ [])
    ∷ row ((mark_a 4).number ∷ (mark_a 4).count ∷ (mark_a 4).table) (10 ∷ 0 ∷ replicate 27 7)
    -- model A's whole output, a line of the paper to a line here
    ∷ row (output (printed model_a)) (
    1 ∷ 50 ∷ 0
    ∷ 2 ∷ 150 ∷ 100
    ∷ 1 ∷ 200 ∷ 1
    ∷ 2 ∷ 300 ∷ 100
    ∷ 1 ∷ 350 ∷ 1
    ∷ 1 ∷ 400 ∷ 2
    ∷ 2 ∷ 550 ∷ 150
    ∷ 3 ∷ 9 ∷ 7 ∷ [])
    -- the words that a caller lends for model A's table, and for an image that is refused
    ∷ row ((needed_of model_a).words ∷ (needed_of (drop 1 model_a)).words ∷ []) (27 ∷ 0 ∷ [])
    ∷ []

-- every row's two sides are the same
pub examples : map (λ (r : Row). r.given) rows ≡ map (λ (r : Row). r.said) rows
unfolding rows
examples = refl
