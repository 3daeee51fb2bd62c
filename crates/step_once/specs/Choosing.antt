-- What a step chooses by: the order of the rules on the tape, the set of those that match, and that of those whose entry is known to be fresh.
use Rattle.std.specs.Prelude.{ℕ, ◌≤◌, List, length}
use Rattle.layout.specs.declared.Plan.{Plan}
use Rattle.meaning.specs.Model.{Rule}
use Rattle.layout.specs.Rows.{rule_in}
use Rattle.layout.specs.Plans.{heads_on, rows_on, order_on}
use Rattle.match_order.specs.Order.{Ranked, Hitting}
use Rattle.match_rest.specs.Rest.{Sure}

abbrev pub RankedOn : Plan → List ℕ → Type 0
RankedOn p tape = Ranked (heads_on p tape) (order_on p tape) p.rules

-- there are words for the set, and it holds the places of the rules that match
abbrev pub HittingOn : Plan → List ℕ → List ℕ → List ℕ → Type 0
HittingOn p tape table sets = (8 ≤ length sets) × Hitting table (order_on p tape) sets p.rules

abbrev pub rule_on : Plan → List ℕ → ℕ → Rule
rule_on p tape k = rule_in (heads_on p tape) (rows_on p tape) k

-- there are words for that set too, and whose number is in it has a fresh entry
abbrev pub SureOn : Plan → List ℕ → List ℕ → List ℕ → List ℕ → Type 0
SureOn p tape state table sets = (52 ≤ length sets) × Sure (heads_on p tape) (rows_on p tape) p.rules state table sets
