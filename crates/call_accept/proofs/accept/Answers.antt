-- A header that was refused is the refusal that is answered.
use Rattle.std.proofs.Common.{rules}
use Rattle.call_accept.proofs.TakenLaws.{refused-taken}
use Rattle.call_accept.proofs.accept.Goals as goal

pub returns-in_err-begun-clause-refused : goal.returns-in_err-begun-clause-refused
returns-in_err-begun-clause-refused c = refused-taken c.args.begun c.in_err-begun.field-0.0 c.from_residual.result c.args.lent c.args.tape.now (search rules) (search rules)
