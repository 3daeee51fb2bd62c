-- `step_effect::modify` meets its contract: what is named from here on, put into the slots as they are now, gives the whole.
use Rattle.std.proofs.Common.{sym, ◌∙◌, rules}
use Rattle.step_effect.proofs.SlotLaws.{putting-start, putting-on, putting-off, putting-end}
use Rattle.step_effect.proofs.modify.Goals as goal
use Rattle.step_effect.proofs.modify.Goals.{then-is_named, else-is_named}

pub loop-slot-init : goal.loop-slot-init
loop-slot-init c = putting-start _ _ _ _ _

pub loop-slot-preserved : goal.loop-slot-preserved
loop-slot-preserved c =
    let so-far = c.loop-slot.invariant in
    let h = c.loop-slot-test.true in
    (elim c.if-is_named.branch [
      | then-is_named w ↦ rw w.state-is (putting-on so-far h _ (sym c.is_named.ensures ∙ w.if-is_named.true) w.value_of.ensures (search rules))
      | else-is_named w ↦ rw w.state-is (putting-off so-far h (sym c.is_named.ensures ∙ w.if-is_named.false))
    ])

pub returns : goal.returns
returns c = putting-end c.loop-slot.invariant c.loop-slot-test.false (search rules)
