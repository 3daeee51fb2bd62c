-- `match_beds::touched` meets its contract: the testers of the marked buffers passed are gathered.
use Rattle.match_beds.proofs.MoveLaws.{touches_none, touches-turn, touches-end}
use Rattle.match_sets.proofs.BitWalk.{walk_begins, walk-ahead, walk_here, walk_none, walk-goes-on, walk_ends, bit_below}
use native.Mathlib.Omega.{arith}
use mathlib.Core.Path.{refl}
use Prim.Native.Nat.{◌%◌}
use Rattle.match_beds.proofs.touched.Goals as goal

pub loop-rest-init : goal.loop-rest-init
loop-rest-init c =
    let args = c.args in
    walk_begins (args.mark % 256) 8 _ (touches_none args.sets.now args.w args.mark)

pub loop-rest-preserved : goal.loop-rest-preserved
loop-rest-preserved c =
    let l = c.loop-rest in
    let args = c.args in
    let x = args.mark % 256 in
    let here = walk_here l.invariant c.lowest.result c.lowest.ensures.1 in
    let low = bit_below 8 x c.lowest.result (omega arith) here in
    walk-goes-on l.invariant c.lowest.result c.lowest.ensures.1 c.lowest.ensures.2 _ c.drop_lowest-rest.ensures.0 low
    (touches-turn args.sets.now args.w args.mark x l.invariant.at refl c.lowest.result l.all (walk-ahead l.invariant c.lowest.result c.lowest.ensures.1)
    (walk_none l.invariant c.lowest.result c.lowest.ensures.2) l.invariant.so low here)

pub returns : goal.returns
returns c =
    let l = c.loop-rest in
    let args = c.args in
    touches-end args.sets.now args.w args.mark (args.mark % 256) l.invariant.at refl 8 l.all l.invariant.low (λ j f e. walk_ends l.invariant c.loop-rest-test.false j f) l.invariant.so
