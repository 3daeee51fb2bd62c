-- `match_beds::wake_bed` meets its contract: word by word the bed is emptied into the awake rules.
use Rattle.match_beds.proofs.WakeLaws.{woke-both, woke-word, Word, earlier-or}
use lib.ListN.{length}
use native.Mathlib.Omega.{arith}
use Prim.Native.Nat.{◌+◌, ◌*◌, ◌<◌}
use Rattle.match_beds.proofs.wake_bed.Goals as goal

pub loop-w-preserved : goal.loop-w-preserved
loop-w-preserved c =
    let l = c.loop-w in
    let args = c.args in
    let within : 64 * l.w < args.n = omega (arith, c.loop-w-test.true, c.div_ceil-w-end.ensures) in
    let room : 52 + 256 * l.w + args.h < length l.sets = omega (arith, c.requires.0.beds (64 * l.w) within, l.invariant.size, c.requires.1) in
    let word = woke-word args.n l.w args.h l.sets c.requires.1 room (omega (arith, c.requires.0.few)) c.requires.0.few in
    woke-both args.n _ (Word l.w args.h) _ args.sets.now l.sets _ l.invariant word (λ g k x. earlier-or args.h l.w g k x)
