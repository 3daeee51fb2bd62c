-- `actr::print` meets its contract: the table is as long as the image needs, and what was put stands at the start of the text.
use Prim.Native.Nat.{◌≤◌}
use mathlib.Core.Path.{◌≡◌, sym, ap, ◌∙◌}
use native.Mathlib.Omega.{arith}
use lib.ListN.{replicate}
use lib.Seq.{length-take-le}
use Rattle.meaning.specs.Calls.{Needed, needed_of}
use Rattle.laws.specs.CallsLaws.{table-most}
use borrow.Author.Rules.{rules}
use Rattle.actr.proofs.print.Goals as goal
use Rattle.actr.proofs.print.Goals.{After-table_length-needed}

-- the words that were answered are those that the image needs, and the room has as many
needs-words : (c : After-table_length-needed) → c.table_length-needed.result.words ≡ (needed_of c.args.image.now).words
needs-words c = ap (λ (n : Needed). n.words) c.table_length-needed.ensures

few : (c : After-table_length-needed) → c.table_length-needed.result.words ≤ 2304
few c = rw (needs-words c) (table-most c.args.image.now)

pub slice_bounds-room-end : goal.slice_bounds-room-end
slice_bounds-room-end c = omega (arith, few (goal.at.slice_bounds-room-end c).After-table_length-needed)

pub slice_bounds-print_model-end : goal.slice_bounds-print_model-end
slice_bounds-print_model-end c = sym (length-take-le _ (replicate 2304 0) (few (goal.at.slice_bounds-print_model-end c).After-table_length-needed))

pub print_model-requires : goal.print_model-requires
print_model-requires c = (length-take-le _ (replicate 2304 0) (few (goal.at.print_model-requires c).After-table_length-needed) ∙ needs-words (goal.at.print_model-requires c).After-table_length-needed, search rules)
