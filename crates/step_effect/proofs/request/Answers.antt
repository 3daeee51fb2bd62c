-- `step_effect::request` meets its contract, by what retrieval answers: a fact is written from its row, nothing as nil with the flag set.
use Rattle.std.proofs.Common.{◌+◌, ◌*◌, ◌≤◌, length, arith}
use lib.ListN.{drop}
use Rattle.layout.proofs.PlanLaws.{sections}
use Rattle.step_effect.proofs.FoundLaws.{fact-made, none_made}
use Rattle.step_effect.proofs.request.Goals as goal
use Rattle.step_effect.proofs.request.Goals.{After-rows, In-Some}

-- the rows of the facts stand there, and so the row of the one that is found
room : (c : After-rows) → 11 * c.plan-plan.result.facts ≤ length c.facts-facts.result.now
room c = rw (c.facts-facts.ensures, c.plan-plan.ensures.value) (sections (rw c.plan-plan.ensures.value at c.plan-plan.ensures.planned)).facts_room

found : (c : In-Some) → 11 * c.in-Some.i + 11 ≤ length c.facts-facts.result.now
found c = omega (arith, room (goal.at.In-Some c).After-rows, c.in-Some.ensures.below)

pub retrieve-requires : goal.retrieve-requires
retrieve-requires c =
    let few = c.plan-plan.ensures.planned in (
      omega (arith, few.facts_placed, few.most_places),
      room c,
      rw c.rows.ensures c.requires.2,
      c.requires.3,
      rw (c.facts-facts.ensures, c.chains.ensures, c.plan-plan.ensures.value) c.requires.4,
    )

pub bounds-facts-f : goal.bounds-facts-f
bounds-facts-f c = omega (arith, found (goal.at.bounds-facts-f c).In-Some)

pub bounds-facts-f-in-Some : goal.bounds-facts-f-in-Some
bounds-facts-f-in-Some c = omega (arith, found (goal.at.bounds-facts-f-in-Some c).In-Some)

pub fill-requires : goal.fill-requires
fill-requires c = (c.requires.0, c.requires.1, omega (arith, found (goal.at.fill-requires c).In-Some))

pub returns-in-Some : goal.returns-in-Some
returns-in-Some c =
    let a = c.args in
    fact-made (drop 152 a.image.now.tape) a.image.now.plan.failure (rw (c.facts-facts.ensures, c.rows.ensures, c.plan-plan.ensures.value) at c.retrieve.ensures.nine_value) _ c.in-Some.is (rw c.facts-facts.ensures at c.fill.ensures)

pub returns-in-None : goal.returns-in-None
returns-in-None c =
    let a = c.args in
    let found = rw (c.facts-facts.ensures, c.rows.ensures, c.plan-plan.ensures.value) at c.retrieve.ensures.nine_value in
    let made = none_made (drop 152 a.image.now.tape) c.plan-plan.result.failure found c.in-None.is c.nil.ensures in
    rw c.plan-plan.ensures.value at made
