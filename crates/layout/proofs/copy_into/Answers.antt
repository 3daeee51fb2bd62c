-- A part that came back as other words is as if these had been written there.
use Rattle.std.proofs.Common.{rules, ◌≡◌, refl, length}
use Rattle.layout.proofs.WordLaws.{lent-sets}
use Rattle.layout.proofs.copy_into.Goals as goal

pub returns : goal.returns
returns c =
    let a = c.args in
    let copied : c.copy_from_slice.new.self ≡ a.from.now = search rules in
    rw copied (lent-sets a.o (length a.from.now) a.words.now a.from.now c.requires refl)
