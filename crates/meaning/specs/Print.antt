-- "The printing program": the lines of a run, apart from their letters.
use Rattle.std.specs.Prelude.{List, [], ◌∷◌, ◌++◌, map, ℕ, length}
use Rattle.std.proofs.Math.Option.{some}
use Rattle.meaning.specs.Model.{Model}
use Rattle.meaning.specs.Read.{Read, read_refused, read_got}
use Rattle.meaning.specs.Image.{decode}
use Rattle.meaning.specs.Match.{fresh_table}
use Rattle.meaning.specs.Step.{Event}
use Rattle.meaning.specs.Run.{Going, Timed, Run, going, run_from}
use Rattle.meaning.specs.Calls.{open_state}

-- "one line each: clock after the step, `fire` or `wait`, the rule number or the ms waited. The last line is `end`, the number, the steps made."
pub data Line : Type 0 where
  stepped : ℕ → Event → Line
  end : ℕ → ℕ → Line

abbrev pub line_of : Timed → Line
line_of e = stepped e.clock e.event

abbrev pub lines_of : Run Going → List Line
lines_of r = map line_of r.events ++ (end r.number (length r.events) ∷ [])

-- "It .. opens it, runs at most 1,000 steps". "A refused opening prints that line alone." "The printing program lends an empty store, so a printed run learns."
abbrev pub printed_by : Read Model → List Line
printed_by (read_refused n at) = end n 0 ∷ []
printed_by (read_got m at) = lines_of (run_from m 1000 (going (open_state m) (fresh_table m.rules (open_state m)) (some [])))

unfoldable pub printed : List ℕ → List Line
printed image = printed_by (decode image)
