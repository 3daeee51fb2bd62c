-- `call_run::set_out` meets its contract: what a run keeps besides the model is laid out, and the model that stands on the tape runs.
use Prim.Native.Nat.{ℕ}
use mathlib.Core.List.{List}
use Rattle.laws.specs.PartLaws.{to_end}
use Rattle.layout.specs.Plans.{rows_on}
use Rattle.call_run.proofs.set_out.Goals as goal
use Rattle.call_run.proofs.set_out.Goals.{After-lay_aids}

abbrev tape : (c : After-lay_aids) → List ℕ
tape c = c.lay_aids.new.tape

pub advance-requires : goal.advance-requires
advance-requires c =
    let rests = c.lay_rest.ensures (rows_on c.args.plan (tape (goal.at.advance-requires c).After-lay_aids)) c.args.state.now in
    (c.lay_aids.ensures.planned, c.requires.1, c.requires.2, c.lay_aids.ensures.aided, simp to_end at rests)
