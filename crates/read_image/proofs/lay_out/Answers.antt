-- A header that was refused is the image's refusal.
use Rattle.std.proofs.Common.{rules}
use Rattle.read_image.proofs.WholeLaws.{refused-laid}
use Rattle.read_image.proofs.lay_out.Goals as goal

pub returns-in_err-begun-clause-refused : goal.returns-in_err-begun-clause-refused
returns-in_err-begun-clause-refused c = refused-laid c.args.begun c.in_err-begun.field-0.0 c.from_residual.result c.args.tape.now (search rules) (search rules)
