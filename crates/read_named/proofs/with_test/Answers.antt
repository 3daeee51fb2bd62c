-- After some slots the mask holds the variables of those among them that are named.
use Rattle.std.proofs.Common.{◌≡◌, ◌+◌, get_or, arith}
use Rattle.read_terms.proofs.MaskBits.{names-on, names-off}
use Rattle.read_named.proofs.SeenLaws.{slots_skip, slots_turn, slots_end}
use Rattle.read_named.proofs.with_test.Goals as goal
use Rattle.read_named.proofs.with_test.Goals.{then-named-slot-eq1, else-named-slot-eq1}

pub loop-slot-preserved : goal.loop-slot-preserved
loop-slot-preserved c =
    let l = c.loop-slot in
    let a = c.args in
    let m = get_or a.words.now (a.q + 2) 0 in
    let seen = c.if-named-slot-eq1.seen in
    elim c.if-named-slot-eq1.branch [
      | then-named-slot-eq1 w ↦ slots_turn a.words.now a.q a.mask l.slot l.seen seen l.invariant (names-on m l.slot w.if-named-slot-eq1.true) (rw w.seen-is w.with_term-seen.ensures)
      | else-named-slot-eq1 w ↦ slots_skip a.words.now a.q a.mask l.slot l.seen seen l.invariant (names-off m l.slot w.if-named-slot-eq1.false) w.seen-is
    ]

pub returns : goal.returns
returns c =
    let all : c.loop-slot.slot ≡ 8 = omega arith in
    slots_end c.args.words.now c.args.q c.args.mask c.loop-slot.seen (rw all at c.loop-slot.invariant)
