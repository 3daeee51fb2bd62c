-- "Calls and their numbers": open, run and refresh, for all that they could be handed.
use Rattle.std.specs.Prelude.{if◌then◌else◌, Bool, not, List, [], ◌++◌, map, ℕ, ◌-◌, ◌*◌, ◌^◌, leb, eqb, length, replicate}
use Rattle.std.proofs.Math.Option.{Option, none}
use Rattle.meaning.specs.declared.State.{State}
use Rattle.meaning.specs.Numbers.{all_done, wrong_table, ill_formed, bad_mark, bad_store}
use Rattle.meaning.specs.Model.{Model}
use Rattle.meaning.specs.State.{nil_after, opens, zero_state, well_formed}
use Rattle.meaning.specs.Read.{Read, read_refused, read_got}
use Rattle.meaning.specs.Image.{decode}
use Rattle.meaning.specs.Match.{fresh_table}
use Rattle.meaning.specs.Refresh.{refresh, refresh_count}
use Rattle.meaning.specs.Run.{Going, going, Run, ends, run_from}
use Rattle.meaning.specs.Store.{lent_by, store_fits, store_of, store_left}

-- "Order: 1; then 2 and 3, the earlier in reading order; 4; 5": what all three calls look at first
abbrev pub fitting : List ℕ → Read Model → Read Model
fitting table (read_refused n at) = read_refused n at
fitting table (read_got m at) = if eqb (length table) (9 * length m.rules) then read_got m at else read_refused wrong_table 0

unfoldable pub accepted : List ℕ → List ℕ → Read Model
accepted image table = fitting table (decode image)

-- "from every call the position of the offending field's first bit for 2, 3 and these, else 0":
-- refused by another number it has 0 there, and accepted there is none to tell: 0
abbrev pub place_of : {A : Type 0} → Read A → ℕ
place_of (read_refused n at) = at
place_of (read_got x at) = 0

-- ---- what a caller asks before it opens: the words that the table of an image needs

pub record Needed : Type 0 where
  pub number : ℕ
  pub position : ℕ
  pub words : ℕ

-- 0 words for an image that is refused, and the number tells it from one without rules
abbrev pub needed_by : Read Model → Needed
needed_by (read_refused n at) = record { number = n; position = at; words = 0 }
needed_by (read_got m at) = record { number = all_done; position = 0; words = 9 * length m.rules }

unfoldable pub needed_of : List ℕ → Needed
needed_of image = needed_by (decode image)

-- ---- "Open: image, table; gives a number and the state."

pub record Opened : Type 0 where
  pub number : ℕ
  pub position : ℕ
  pub state : State
  pub table : List ℕ

-- "For each buffer, its opening chunk"; "buffers past the image's count hold nil"; "Opening delays and the opening clock are 0."
unfoldable pub open_state : Model → State
open_state m = record { buffers = map opens m.opening ++ replicate (8 - m.buffers) (nil_after 0); clock = 0 }

-- "an all-zero state from open) and an unaltered table". "Open that is accepted writes the fresh table."
abbrev pub opened_by : List ℕ → Read Model → Opened
opened_by table (read_refused n at) = record { number = n; position = at; state = zero_state; table = table }
opened_by table (read_got m at) = record { number = all_done; position = 0; state = open_state m; table = fresh_table m.rules (open_state m) }

unfoldable pub open_of : List ℕ → List ℕ → Opened
open_of image table = opened_by table (accepted image table)

-- ---- "Run: image, state, table, steps asked (0 to 65,535); gives a number, the state and the steps made."

-- the run that a call makes, with its events, where a store may be lent in words: "Numbers 1 to 6 and 10 return count 0, the state as handed in ..
-- and an unaltered table." "11 to 13 return and leave what 3 does". 15 is "after 6 and like it, the store unaltered".
-- "Run with 0 steps asked answers 0 after checks 1 to 6."
abbrev pub traced_by : State → List ℕ → Option (List ℕ) → ℕ → Read Model → Run Going
traced_by s table lent steps (read_refused n at) = ends n (going s table none)
traced_by s table lent steps (read_got m at) =
    if not (well_formed m s) then ends ill_formed (going s table none)
    else (if not (store_fits m.types lent) then ends bad_store (going s table none)
    else run_from m steps (going s table (store_of lent)))

unfoldable pub trace_lent : List ℕ → State → List ℕ → ℕ → Option (List ℕ) → Run Going
trace_lent image s table steps lent = traced_by s table lent steps (accepted image table)

-- with nothing lent
abbrev pub trace_of : List ℕ → State → List ℕ → ℕ → Run Going
trace_of image s table steps = trace_lent image s table steps none

pub record Ran : Type 0 where
  pub number : ℕ
  pub position : ℕ
  pub state : State
  pub table : List ℕ
  pub made : ℕ

-- what the call gives back of it, and how it leaves the table
abbrev pub ran_by : ℕ → Run Going → Ran
ran_by position r = record { number = r.number; position = position; state = r.left.state; table = r.left.table; made = length r.events }

-- an answer, and how the call leaves the words beside it, lent or not
pub record WithStore (A : Type 0) : Type 0 where
  pub answer : A
  pub store : List ℕ

-- the general call: a word says what is lent of the words
unfoldable pub run_lent : List ℕ → State → List ℕ → ℕ → ℕ → List ℕ → WithStore Ran
run_lent image s table steps lent words =
    let r : Run Going = trace_lent image s table steps (lent_by lent words) in
    record { answer = ran_by (place_of (accepted image table)) r; store = store_left words r.left.store }

-- with nothing lent
unfoldable pub run_of : List ℕ → State → List ℕ → ℕ → Ran
run_of image s table steps = ran_by (place_of (accepted image table)) (trace_of image s table steps)

-- ---- "Refresh: image, state, mark (16 bits), table; .. gives a number and how many rules test a marked buffer."

pub record Refreshed : Type 0 where
  pub number : ℕ
  pub position : ℕ
  pub count : ℕ
  pub table : List ℕ

-- "6; 10"
abbrev pub refreshed_by : State → ℕ → List ℕ → Read Model → Refreshed
refreshed_by s mark table (read_refused n at) = record { number = n; position = at; count = 0; table = table }
refreshed_by s mark table (read_got m at) =
    if not (well_formed m s) then record { number = ill_formed; position = 0; count = 0; table = table }
    else (if leb (2 ^ m.buffers) mark then record { number = bad_mark; position = 0; count = 0; table = table }
    else record { number = all_done; position = 0; count = refresh_count m.rules mark; table = refresh m.rules s mark table })

unfoldable pub refresh_of : List ℕ → State → ℕ → List ℕ → Refreshed
refresh_of image s mark table = refreshed_by s mark table (accepted image table)
