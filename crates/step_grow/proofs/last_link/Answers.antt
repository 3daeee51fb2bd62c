-- `step_grow::last_link` meets its contract: the word looked at is a link of the chain, and the next fact is the one that it names.
use Rattle.std.proofs.Common.{◌+◌, sym, drop, arith}
use lib.Seq.{get_or-drop}
use Rattle.step_grow.proofs.LinkLaws.{link-next}
use Rattle.step_grow.proofs.last_link.Goals as goal

pub loop-next-preserved : goal.loop-next-preserved
loop-next-preserved c =
    let a = c.args in
    let l = c.loop-next in
    (link-next (drop a.chains a.tape.now) (drop 152 a.tape.now) a.n c.requires.0 a.h l.at l.next c.requires.2 l.invariant.0 l.invariant.1 (omega arith), sym (get_or-drop a.chains a.tape.now (64 + l.next) 0))
