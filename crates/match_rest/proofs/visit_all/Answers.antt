-- `match_rest::visit_all` meets its contract: the rules of the set among the first i are visited.
use Rattle.match_rest.proofs.RoundLaws.{visited-turn, visited-end}
use Rattle.match_sets.proofs.BitWalk.{walk-ahead, walk_here, walk_none, walk-goes-on, walk_ends}
use Rattle.match_rest.proofs.visit_all.Goals as goal

pub loop-rest-preserved : goal.loop-rest-preserved
loop-rest-preserved c =
    let l = c.loop-rest in
    let args = c.args in
    let x = args.todo in
    let here = walk_here l.invariant c.lowest.result c.lowest.ensures.1 in
    let none = walk_none l.invariant c.lowest.result c.lowest.ensures.2 in
    walk-goes-on l.invariant c.lowest.result c.lowest.ensures.1 c.lowest.ensures.2 _ c.drop_lowest-rest.ensures.0 c.lowest.ensures.0
    (visited-turn args.heads.now args.words.now args.order.now args.state.now args.w x args.table.now args.sets.now l.invariant.at c.lowest.result
    (walk-ahead l.invariant c.lowest.result c.lowest.ensures.1) none l.table l.sets
    l.invariant.so c.lowest.ensures.0 c.requires.1 here (c.requires.2 c.lowest.result here).entry c.visit.new.table c.visit.new.sets c.visit.ensures)

pub returns : goal.returns
returns c =
    let l = c.loop-rest in
    let args = c.args in
    visited-end args.heads.now args.words.now args.order.now args.state.now args.w args.todo args.table.now args.sets.now l.invariant.at 64 l.invariant.low
    (λ j f e. walk_ends l.invariant c.loop-rest-test.false j f) l.table l.sets l.invariant.so
