-- What is laid out on the tape is the verdict.
use Rattle.std.proofs.Common.{rules}
use Rattle.read_image.proofs.WholeLaws.{laid-checked}
use Rattle.read_image.proofs.check_in.Goals as goal

pub returns : goal.returns
returns g c = laid-checked c.lay_on.result _ _ _ c.lay_on.ensures.reads
