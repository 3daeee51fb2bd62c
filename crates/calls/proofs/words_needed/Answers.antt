-- An accepted image has as many rules as its plan says.
use Rattle.std.proofs.Common.{rules}
use Rattle.calls.proofs.LengthLaws.{length-header, length-bad, length-next}
use Rattle.calls.proofs.words_needed.Goals as goal

pub returns-in_err-begun : goal.returns-in_err-begun
returns-in_err-begun c =
    let refused = length-header c.args.image.now _ _ c.in_err-begun.ensures.reads in
    search (rules, refused)

pub returns-in_err-check : goal.returns-in_err-check
returns-in_err-check c =
    let same = c.in_ok-begun.ensures.begun.0 in
    let refused = length-bad c.args.image.now _ _ (rw same at c.in_err-check.ensures.checked.reads) in
    search (rules, refused)

pub returns : goal.returns
returns c =
    let same = c.in_ok-begun.ensures.begun.0 in
    let checked = rw same at c.check.ensures.checked in
    let needed = length-next c.check.result c.in_ok-begun.begun.plan c.args.image.now _ checked (rw same at c.in_ok-check.ensures.checked.reads) in
    search (rules, needed)
