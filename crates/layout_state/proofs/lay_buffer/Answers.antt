-- `layout_state::lay_buffer` meets its contract: the type is stored, then the slots, the delay and the flag.
use Prim.Native.Nat.{◌+◌, ◌*◌}
use mathlib.Core.Path.{◌≡◌}
use native.Mathlib.Omega.{arith}
use borrow.Author.Rules.{rules}
use lib.ListN.{length, set, length-set}
use Rattle.layout.proofs.WordLaws.{lent-sets}
use Rattle.layout_state.proofs.LayLaws.{lay_done}
use Rattle.layout_state.proofs.lay_buffer.Goals as goal

pub returns-clause-k_after : goal.returns-clause-k_after
returns-clause-k_after c =
    let a = c.args in
    let o = 11 * a.k in
    let z : o + 9 ≡ o + 1 + 8 = omega arith in
    let laid = c.copy_from_slice.ensures.after in
    let long : length a.buffer.slots ≡ 8 = search rules in
    lay_done a.words.now _ a.k a.buffer _ (search rules) long (search rules)
    (rw (z, laid) (lent-sets (o + 1) 8 (set a.words.now o a.buffer.isa) a.buffer.slots (omega (arith, length-set a.words.now o a.buffer.isa)) long))
