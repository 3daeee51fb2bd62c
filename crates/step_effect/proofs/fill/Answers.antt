-- `step_effect::fill` meets its contract: the slots, and then the type, the delay and the flag.
use Rattle.std.proofs.Common.{arith}
use Rattle.step_effect.proofs.SlotLaws.{only_copied, all_copied, copied-end}
use Rattle.step_effect.proofs.fill.Goals as goal

pub returns : goal.returns
returns c =
    let a = c.args in
    copied-end (only_copied a.state.now a.k a.from.now a.at _ (omega arith) c.requires.2 c.copy_from_slice.ensures.after) a.isa a.from.now a.at a.delay a.flag (omega arith)
    (all_copied a.state.now a.k a.from.now a.at _ (omega arith) c.requires.2 c.copy_from_slice.ensures.after)
