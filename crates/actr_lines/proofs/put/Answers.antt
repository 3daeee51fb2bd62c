-- `actr_lines::put` meets its contract: the bytes are copied over a part of the text.
use Rattle.actr_lines.proofs.WrittenLaws.{put-copied}
use Rattle.actr_lines.proofs.put.Goals as goal
use native.Mathlib.Omega.{arith}

pub returns : goal.returns
returns c =
    let a = c.args in
    put-copied a.text.now a.at _ a.bytes.now c.copy_from_slice.new.self c.copy_from_slice.ensures.after (omega arith)
