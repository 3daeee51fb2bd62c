-- A header that was refused is the image's refusal.
use Rattle.std.proofs.Common.{rules}
use Rattle.read_image.proofs.WholeLaws.{refused-checked}
use Rattle.read_image.proofs.check.Goals as goal

pub returns-in_err-begun-clause-refused : goal.returns-in_err-begun-clause-refused
returns-in_err-begun-clause-refused c = refused-checked c.args.begun c.in_err-begun.field-0.0 c.from_residual.result (search rules) (search rules)
