-- `call_accept::accept_on` meets its contract: the image first, then the table's length.
use Rattle.call_accept.proofs.TakenLaws.{taken-bad, taken-other, taken-right}
use borrow.Author.Rules.{rules}
use Rattle.call_accept.proofs.accept_on.Goals as goal

pub returns-in_err-lay_out : goal.returns-in_err-lay_out
returns-in_err-lay_out c =
    let b = c.args.begun.now in
    taken-bad b.plan b.image _ c.args.lent _ c.in_err-lay_out.ensures.laid_out.reads _ (search rules)

pub returns-then-not-right_length : goal.returns-then-not-right_length
returns-then-not-right_length c =
    let b = c.args.begun.now in
    taken-other b.plan b.image _ c.args.lent _ c.in_ok-lay_out.ensures.laid_out.reads c.right_length.result (search rules) c.if-not-right_length.true _ (search rules)

pub returns : goal.returns
returns c =
    let b = c.args.begun.now in
    taken-right b.plan b.image _ c.args.lent _ c.in_ok-lay_out.ensures.laid_out.reads c.right_length.result (search rules) c.if-not-right_length.false c.in_ok-lay_out.ensures.laid_out.planned
