-- `call_store::take_in` meets its contract: where no store is lent, nothing is done.
use Rattle.call_store.proofs.LendLaws.{nothing_lent}
use Rattle.call_store.proofs.take_in.Goals as goal

pub returns-else-plan : goal.returns-else-plan
returns-else-plan c =
    let a = c.args in
    nothing_lent a.plan a.tape.now a.store.now c.requires.0 c.if-plan.false
