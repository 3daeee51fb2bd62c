-- `step_aids::lay_order` meets its contract: the order is laid in its part of the tape, by whether the ranks fall already.
use Prim.Native.Nat.{ℕ, ◌+◌, ◌-◌, ◌*◌, ◌≤◌}
use mathlib.Core.Path.{◌≡◌, sym, ◌∙◌}
use native.Mathlib.Omega.{arith}
use lib.ListN.{length, take, drop, length-drop}
use Rattle.layout.specs.Plans.{heads_on}
use Rattle.laws.specs.PartLaws.{to_end}
use Rattle.layout.proofs.PlanLaws.{Sections, sections}
use Rattle.match_order.proofs.CountLaws.{ranked-same}
use Rattle.step_aids.proofs.AidLaws.{order-laid}
use borrow.Author.Rules.{rules}
use Rattle.step_aids.proofs.lay_order.Goals as goal
use Rattle.step_aids.proofs.lay_order.Goals.{Start}

-- the part from the order's place on has room for it
part_room : (c : Start) → 2 * c.args.plan.rules ≤ length (drop c.args.plan.order c.args.tape.now)
part_room c = omega (arith, (sections c.requires).order_end, length-drop c.args.plan.order c.args.tape.now)

pub returns-then-falling : goal.returns-then-falling
returns-then-falling c =
    let a = c.args in
    let falls = simp to_end at (c.falling.ensures c.if-falling.true) in
    let part = to_end a.plan.order a.tape.now in
    let room : 2 * a.plan.rules ≤ length c.lay_same.new.order = rw (c.lay_same.auto.order, part) (part_room (goal.at.returns-then-falling c).Start) in
    order-laid a.plan a.tape.now c.lay_same.new.order c.requires c.lay_same.auto.order
    (ranked-same (heads_on a.plan a.tape.now) c.lay_same.new.order a.plan.rules c.requires.laid.at_most room falls c.lay_same.ensures)

pub returns : goal.returns
returns c =
    let a = c.args in
    order-laid a.plan a.tape.now c.lay_counted.new.order c.requires c.lay_counted.auto.order
    (c.lay_counted.ensures (heads_on a.plan a.tape.now) (simp to_end at c.lay_ranks.ensures))
