-- `step_learn::collect` meets its contract: the rows are what the buffers below a place give, and those that are left are ahead.
use borrow.Author.Tests.{not-true, not-false}
use Prim.Native.Nat.{◌+◌, ◌*◌, ◌<◌}
use mathlib.Core.Path.{refl, sym, ◌∙◌}
use mathlib.Core.List.{List}
use native.Mathlib.Omega.{arith}
use Rattle.meaning.specs.Model.{Action, Chunk}
use Rattle.meaning.specs.Learning.{chunks_of}
use Rattle.layout.specs.Rows.{actions_in}
use Rattle.layout.specs.Plans.{facts_on, rows_on}
use Rattle.match_sets.proofs.BitWalk.{walk_here}
use Rattle.step_learn.specs.Clears.{ClearMask}
use Rattle.step_learn.proofs.ClearLaws.{clear-low}
use Rattle.step_learn.proofs.CollectLaws.{collecting-start, collecting-few, collecting-turn, collecting-end, collected-none, collected-so}
use Rattle.step_learn.proofs.collect.Goals as goal
use Rattle.step_learn.proofs.collect.Goals.{After-clear_mask-mask, After-lowest-b}

-- the facts' chunks, and the actions of the rule
abbrev facts : (c : After-clear_mask-mask) → List Chunk
facts c = let a = c.args in chunks_of (facts_on a.image.now.plan a.image.now.tape)

abbrev actions : (c : After-clear_mask-mask) → List Action
actions c = let a = c.args in actions_in (rows_on a.image.now.plan a.image.now.tape) (185 * a.k + 97) c.actions-m.result

masked : (c : After-clear_mask-mask) → ClearMask (actions c) c.clear_mask-mask.result
masked c = rw c.rows.ensures at c.clear_mask-mask.ensures

one-of-eight : (c : After-lowest-b) → c.lowest-b.result < 8
one-of-eight c =
    let a = c.args in
    clear-low (rows_on a.image.now.plan a.image.now.tape) (185 * a.k + 97) 0 c.actions-m.result c.lowest-b.result
    (sym (masked (goal.at.After-lowest-b c).After-clear_mask-mask c.lowest-b.result) ∙ walk_here c.loop-rest.invariant.1 c.lowest-b.result c.lowest-b.ensures.1)

pub returns-then-not-plan : goal.returns-then-not-plan
returns-then-not-plan c = let a = c.args in collected-none a.image.now.plan a.image.now.tape a.state.now a.k a.news.now (rw c.plan.ensures.value at (not-true c.plan.result.learns c.if-not-plan.true))

pub clear_mask-mask-requires : goal.clear_mask-mask-requires
clear_mask-mask-requires c =
    let planned = rw c.plan.ensures.value at c.plan.ensures.planned in
    rw c.rows.ensures (omega (arith, c.actions-m.ensures.few, planned.laid.words_room, c.requires.1))

pub loop-rest-init : goal.loop-rest-init
loop-rest-init c = let a = c.args in (refl, collecting-start (facts (goal.at.loop-rest-init c).After-clear_mask-mask) (actions (goal.at.loop-rest-init c).After-clear_mask-mask) a.state.now a.news.now c.clear_mask-mask.result)

pub join-n-requires : goal.join-n-requires
join-n-requires c =
    let room = collecting-few (facts (goal.at.join-n-requires c).After-clear_mask-mask) (actions (goal.at.join-n-requires c).After-clear_mask-mask) c.args.state.now c.loop-rest.news c.loop-rest.n (masked (goal.at.join-n-requires c).After-clear_mask-mask) c.loop-rest.invariant.1 c.lowest-b.result c.lowest-b.ensures.1 in
    (omega (arith, room, one-of-eight (goal.at.join-n-requires c).After-lowest-b, c.loop-rest.invariant.0, c.requires.3), c.requires.2, one-of-eight (goal.at.join-n-requires c).After-lowest-b, c.requires.0)

pub loop-rest-preserved : goal.loop-rest-preserved
loop-rest-preserved c =
    let a = c.args in (
      c.join-n.auto.news ∙ c.loop-rest.invariant.0,
      collecting-turn (facts (goal.at.loop-rest-preserved c).After-clear_mask-mask) (actions (goal.at.loop-rest-preserved c).After-clear_mask-mask) a.state.now c.loop-rest.news c.loop-rest.n (masked (goal.at.loop-rest-preserved c).After-clear_mask-mask) c.loop-rest.invariant.1 c.lowest-b.result c.lowest-b.ensures.1
          c.lowest-b.ensures.2 (one-of-eight (goal.at.loop-rest-preserved c).After-lowest-b) c.drop_lowest-rest.result c.drop_lowest-rest.ensures.0 c.join-n.new.news c.join-n.result c.join-n.ensures.more c.join-n.ensures.result_after,
    )

pub returns : goal.returns
returns c =
    let a = c.args in
    let yes = rw c.plan.ensures.value at (not-false c.plan.result.learns c.if-not-plan.false) in
    collected-so a.image.now.plan a.image.now.tape a.state.now a.k c.loop-rest.news c.loop-rest.n c.actions-m.result yes c.actions-m.ensures.value
    (collecting-end (facts (goal.at.returns c).After-clear_mask-mask) (actions (goal.at.returns c).After-clear_mask-mask) a.state.now c.loop-rest.news c.loop-rest.n (masked (goal.at.returns c).After-clear_mask-mask) c.loop-rest.invariant.1 c.loop-rest-test.false)
