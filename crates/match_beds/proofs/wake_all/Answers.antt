-- `match_beds::wake_all` meets its contract: those in the beds of the marked buffers passed are awake.
use Rattle.match_beds.proofs.WakeLaws.{woke-both, woke-as, roomy-kept, called-kept, by_turn, by_end}
use Rattle.match_sets.proofs.BitWalk.{walk_here, walk_none, walk-goes-on, walk_ends, bit_below}
use Rattle.match_beds.specs.Woken.{Called}
use native.Mathlib.Omega.{arith}
use mathlib.Core.Path.{refl}
use Prim.Native.Nat.{◌%◌}
use Rattle.match_beds.proofs.wake_all.Goals as goal

pub wake-requires : goal.wake-requires
wake-requires c =
    let l = c.loop-rest in
    let low = bit_below 8 (c.args.mark % 256) c.lowest.result (omega arith) (walk_here l.invariant c.lowest.result c.lowest.ensures.1) in
    (roomy-kept c.args.n c.args.sets.now l.sets l.invariant.so.size c.requires.0, c.requires.1, low)

pub loop-rest-preserved : goal.loop-rest-preserved
loop-rest-preserved c =
    let l = c.loop-rest in
    let args = c.args in
    let x = args.mark % 256 in
    let low = bit_below 8 x c.lowest.result (omega arith) (walk_here l.invariant c.lowest.result c.lowest.ensures.1) in
    let none = walk_none l.invariant c.lowest.result c.lowest.ensures.2 in
    walk-goes-on l.invariant c.lowest.result c.lowest.ensures.1 c.lowest.ensures.2 _ c.drop_lowest-rest.ensures.0 low
    (woke-both args.n _ (λ g k. Called args.state.now args.sets.now c.lowest.result 11 g) _ args.sets.now l.sets c.wake.new.sets l.invariant.so
    (woke-as args.n _ _ l.sets c.wake.new.sets c.wake.ensures (λ g k h d. called-kept args.state.now args.sets.now l.sets c.lowest.result 11 g low l.invariant.so.kept d))
    (λ g k d. by_turn args.state.now args.sets.now args.mark x l.invariant.at refl g c.lowest.result none d))

pub returns : goal.returns
returns c =
    let l = c.loop-rest in
    let args = c.args in
    let x = args.mark % 256 in
    woke-as args.n _ _ args.sets.now l.sets l.invariant.so
    (λ g k h d. by_end args.state.now args.sets.now args.mark x l.invariant.at refl g 8 (λ j f e. walk_ends l.invariant c.loop-rest-test.false j f) d)
