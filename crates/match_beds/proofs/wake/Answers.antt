-- `match_beds::wake` meets its contract: those in the beds of the used places passed are awake.
use Rattle.match_beds.proofs.WakeLaws.{woke-both, woke-as, called-turn, called-end}
use Rattle.match_sets.proofs.BitWalk.{walk_here, walk_none, walk-goes-on, walk_ends, bit_below}
use Rattle.match_beds.specs.Beds.{bed_of}
use lib.ListN.{get_or}
use native.Mathlib.Omega.{arith}
use mathlib.Core.Path.{◌≡◌, refl, sym, ◌∙◌}
use Prim.Native.Nat.{◌+◌, ◌*◌, ◌%◌, ◌<◌}
use Rattle.match_beds.proofs.wake.Goals as goal
use Rattle.match_beds.proofs.wake.Goals.{After-lowest}

-- the words of a buffer are eleven
low : (c : After-lowest) → c.lowest.result < 11
low c =
    let args = c.args in
    bit_below 11 (get_or args.sets.now (40 + args.b) 0 % 2048) c.lowest.result (omega arith)
    (walk_here c.loop-rest.invariant c.lowest.result c.lowest.ensures.1)

pub bounds-state-p : goal.bounds-state-p
bounds-state-p c =
    omega (arith, low (goal.at.bounds-state-p c).After-lowest, c.requires.1, c.requires.2)

pub bed-requires : goal.bed-requires
bed-requires c =
    omega (arith, low (goal.at.bed-requires c).After-lowest, c.requires.2)

pub loop-rest-preserved : goal.loop-rest-preserved
loop-rest-preserved c =
    let l = c.loop-rest in
    let args = c.args in
    let x = get_or args.sets.now (40 + args.b) 0 % 2048 in
    let none = walk_none l.invariant c.lowest.result c.lowest.ensures.2 in
    walk-goes-on l.invariant c.lowest.result c.lowest.ensures.1 c.lowest.ensures.2 _ c.drop_lowest-rest.ensures.0 (low (goal.at.loop-rest-preserved c).After-lowest)
    (woke-both args.n _ (λ g k. g ≡ bed_of (11 * args.b + c.lowest.result) (get_or args.state.now (11 * args.b + c.lowest.result) 0)) _ args.sets.now l.sets c.wake_bed.new.sets
    l.invariant.so (woke-as args.n _ _ l.sets c.wake_bed.new.sets c.wake_bed.ensures (λ g k h e. e ∙ sym c.bed.ensures))
    (λ g k d. called-turn args.state.now args.sets.now args.b x l.invariant.at refl g c.lowest.result none d))

pub returns : goal.returns
returns c =
    let l = c.loop-rest in
    let args = c.args in
    let x = get_or args.sets.now (40 + args.b) 0 % 2048 in
    woke-as args.n _ _ args.sets.now l.sets l.invariant.so
    (λ g k h d. called-end args.state.now args.sets.now args.b x l.invariant.at refl g 11 (λ j f e. walk_ends l.invariant c.loop-rest-test.false j f) d)
