-- What was read stands at its slots, what is left of the mask is read from here, and the ones count it.
use Rattle.std.proofs.Common.{◌≡◌, ◌∙◌, ◌+◌, refl, sym, ap, suc, true, length, length-set, rules, arith}
use Rattle.meaning.specs.Image.{names}
use Rattle.laws.specs.ImageLaws.{slots-ones}
use Rattle.read_terms.proofs.MaskBits.{rest, rest-start, rest-on, rest-off, rest_end, none_left, names-on, names-off}
use Rattle.read_terms.proofs.TermLaws.{on-start, on-skip, on-bad, on-turn, on-end}
use Rattle.read_terms.proofs.terms.Goals as goal
use Rattle.read_terms.proofs.terms.Goals.{then-mask-slot-eq1+in_ok-slots, else-mask-slot-eq1}

pub loop-slot-init : goal.loop-slot-init
loop-slot-init c =
    let a = c.args in
    record {
      reads = on-start a.mask a.variables a.reader.now.image _ a.reader.now.at;
      follows = refl;
      long = search rules;
      counted = sym (slots-ones a.mask c.requires.0) ∙ ap length (sym (rest-start a.mask));
    }

pub returns-then-left-eq0-clause-slots_after : goal.returns-then-left-eq0-clause-slots_after
returns-then-left-eq0-clause-slots_after c =
    let l = c.loop-slot in
    let none = none_left c.args.mask l.slot (omega (arith, l.invariant.counted, c.if-left-eq0.true)) in
    on-end c.args.mask c.args.variables l.reader.image l.slots l.slot l.reader.at (omega arith) none ∙ l.invariant.reads

pub returns-in_err-slots-clause-slots_after : goal.returns-in_err-slots-clause-slots_after
returns-in_err-slots-clause-slots_after c =
    let l = c.loop-slot in
    let on : names c.args.mask l.slot ≡ true = names-on c.args.mask l.slot c.if-mask-slot-eq1.true in
    let refused =
    on-bad c.args.mask c.args.variables l.reader.image l.slots l.slot l.reader.at c.loop-slot-test.true on _ _ c.in_err-slots.ensures.value
    ∙ l.invariant.reads in
    search (rules, refused)

pub loop-slot-preserved : goal.loop-slot-preserved
loop-slot-preserved c =
    let l = c.loop-slot in
    let a = c.args in
    let h = l.invariant in
    let low = c.loop-slot-test.true in
    (elim c.if-mask-slot-eq1.branch [
      | then-mask-slot-eq1+in_ok-slots w ↦
          let read = w.in_ok-slots.ensures in
          let on : names a.mask l.slot ≡ true = names-on a.mask l.slot w.if-mask-slot-eq1.true in
          let more : length (rest a.mask l.slot) ≡ suc (length (rest a.mask (l.slot + 1))) = ap length (rest-on a.mask l.slot low on) in
          let turn = on-turn a.mask a.variables l.reader.image l.slots l.slot l.reader.at low on _ _ c.requires.1 h.long read.bounds.1 read.value in
          record {
            reads = rw (w.reader-is, w.slots-is, read.follows) (turn ∙ h.reads);
            follows = rw w.reader-is (read.follows ∙ h.follows);
            long = ap length w.slots-is ∙ length-set l.slots l.slot _ ∙ h.long;
            counted = omega (arith, more, w.left-is, h.counted);
          }
      | else-mask-slot-eq1 w ↦
          let off = names-off a.mask l.slot w.if-mask-slot-eq1.false in
          record {
            reads = rw (w.reader-is, w.slots-is) (on-skip a.mask a.variables l.reader.image l.slots l.slot l.reader.at low off ∙ h.reads);
            follows = rw w.reader-is h.follows;
            long = ap length w.slots-is ∙ h.long;
            counted = w.left-is ∙ h.counted ∙ ap length (rest-off a.mask l.slot low off);
          }
    ])

pub returns-clause-slots_after : goal.returns-clause-slots_after
returns-clause-slots_after c =
    let l = c.loop-slot in
    on-end c.args.mask c.args.variables l.reader.image l.slots l.slot l.reader.at (omega arith) (rest_end c.args.mask l.slot (omega arith)) ∙ l.invariant.reads
