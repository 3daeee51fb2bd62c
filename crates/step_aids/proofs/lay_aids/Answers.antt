-- `step_aids::lay_aids` meets its contract: the chains, and after them the order.
use Rattle.step_chains.proofs.ChainLaws.{planned-chained}
use Rattle.step_aids.proofs.AidLaws.{aids-laid}
use borrow.Author.Rules.{rules}
use Rattle.step_aids.proofs.lay_aids.Goals as goal

pub lay_order-requires : goal.lay_order-requires
lay_order-requires c =
    planned-chained c.args.plan c.args.tape.now _ c.requires c.lay_chains.ensures c.lay_chains.auto.tape

pub returns : goal.returns
returns c =
    aids-laid c.args.plan c.args.tape.now _ _ c.requires c.lay_chains.ensures c.lay_chains.auto.tape c.lay_order.ensures c.lay_order.auto.tape
