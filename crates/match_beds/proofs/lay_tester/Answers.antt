-- `match_beds::lay_tester` meets its contract: the rule has joined the testers of the buffers passed.
use Rattle.match_beds.proofs.LayLaws.{joins-turn, joins-end}
use Rattle.match_sets.proofs.BitWalk.{walk_here, walk_none, walk-goes-on, walk_ends, bit_below}
use native.Mathlib.Omega.{arith}
use mathlib.Core.Path.{refl}
use Prim.Native.Nat.{◌%◌}
use Rattle.match_beds.proofs.lay_tester.Goals as goal

pub loop-rest-preserved : goal.loop-rest-preserved
loop-rest-preserved c =
    let l = c.loop-rest in
    let args = c.args in
    let x = args.mask % 256 in
    let here = walk_here l.invariant c.lowest.result c.lowest.ensures.1 in
    let low = bit_below 8 x c.lowest.result (omega arith) here in
    let none = walk_none l.invariant c.lowest.result c.lowest.ensures.2 in
    walk-goes-on l.invariant c.lowest.result c.lowest.ensures.1 c.lowest.ensures.2 _ c.drop_lowest-rest.ensures.0 low
    (joins-turn args.k args.mask x l.invariant.at refl args.sets.now l.sets l.invariant.so c.lowest.result none c.requires.0 low here c.put.new.sets c.put.auto.sets c.put.ensures)

pub returns : goal.returns
returns c =
    let l = c.loop-rest in
    let args = c.args in
    joins-end args.k args.mask (args.mask % 256) l.invariant.at refl args.sets.now l.sets l.invariant.so 8 (λ j f e. walk_ends l.invariant c.loop-rest-test.false j f)
