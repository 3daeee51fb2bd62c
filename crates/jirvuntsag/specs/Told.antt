-- What each call answers, for all that C could hand in: the answer is the number, 65,536 times the steps made, the rules counted or the words needed,
-- and 4,294,967,296 times the position.
use Rattle.std.specs.Prelude.{if◌then◌else◌, ℕ, ◌+◌, ◌*◌, List, []}
use Rattle.meaning.specs.Numbers.{ill_formed}
use Rattle.meaning.specs.Model.{Model}
use Rattle.meaning.specs.Read.{Read, read_refused, read_got}
use Rattle.meaning.specs.Run.{Timed}
use Rattle.meaning.specs.Calls.{accepted, place_of, Needed, needed_of, Opened, open_of, Ran, trace_of, run_of, Refreshed, refresh_of}
use Rattle.jirvuntsag.specs.Words.{state_of, words_of, fits}

abbrev pub answer : ℕ → ℕ → ℕ → ℕ
answer number count position = number + 65536 * count + 4294967296 * position

-- a word too large for its field: "state not well formed", after the numbers of the image and of the table
abbrev pub unfit_by : Read Model → ℕ
unfit_by (read_refused n at) = n
unfit_by (read_got m at) = ill_formed

-- with the position of an image that is refused, else 0
abbrev pub unfit_answer : Read Model → ℕ
unfit_answer r = answer (unfit_by r) 0 (place_of r)

-- the answer, the state's words and the table, as a call leaves them
pub record Told : Type 0 where
  pub answered : ℕ
  pub words : List ℕ
  pub table : List ℕ

abbrev pub told : ℕ → List ℕ → List ℕ → Told
told a w t = record { answered = a; words = w; table = t }

abbrev pub told_needed : Needed → ℕ
told_needed n = answer n.number n.words n.position

abbrev pub told_open : Opened → Told
told_open o = told (answer o.number 0 o.position) (words_of o.state) o.table

abbrev pub told_run : Ran → Told
told_run r = told (answer r.number r.made r.position) (words_of r.state) r.table

abbrev pub told_refresh : List ℕ → Refreshed → Told
told_refresh w r = told (answer r.number r.count r.position) w r.table

-- ---- the calls

unfoldable pub length_in : List ℕ → ℕ
length_in image = told_needed (needed_of image)

unfoldable pub open_in : List ℕ → List ℕ → Told
open_in image table = told_open (open_of image table)

unfoldable pub run_in : List ℕ → List ℕ → List ℕ → ℕ → Told
run_in image w table steps =
    if fits w then told_run (run_of image (state_of w) table steps) else told (unfit_answer (accepted image table)) w table

unfoldable pub refresh_in : List ℕ → List ℕ → ℕ → List ℕ → Told
refresh_in image w mark table =
    if fits w then told_refresh w (refresh_of image (state_of w) mark table) else told (unfit_answer (accepted image table)) w table

-- the events of a run, none if it is refused
unfoldable pub events_in : List ℕ → List ℕ → List ℕ → ℕ → List Timed
events_in image w table steps = if fits w then (trace_of image (state_of w) table steps).events else []
