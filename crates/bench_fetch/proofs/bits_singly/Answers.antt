-- `bench_fetch::bits_singly` meets its contract: the bits so far are the field of so many bits, and so they fit 16.
use Prim.Native.Nat.{◌+◌, ◌*◌, ◌<◌}
use mathlib.Core.Path.{◌≡◌, refl}
use native.Mathlib.Omega.{arith}
use lib.Pow.{pow_mono}
use Rattle.meaning.specs.Bits.{field_at}
use Rattle.laws.specs.BitsLaws.{field_at-lt}
use Rattle.bench_fetch.proofs.Laws.{one_more}
use borrow.Author.Rules.{rules}
use Rattle.bench_fetch.proofs.bits_singly.Goals as goal
use Rattle.bench_fetch.proofs.bits_singly.Goals.{After-bit_at}

-- with the bit of this turn it is a field that is one bit longer
longer : (c : After-bit_at) → let l = c.loop-i in let a = c.args in l.value * 2 + c.bit_at.result ≡ field_at a.image.now a.at (l.i + 1)
longer c = let l = c.loop-i in let a = c.args in one_more a.image.now a.at l.i _ _ l.invariant c.bit_at.ensures

-- .. and so it fits 16 bits
fitting : (c : After-bit_at) → c.loop-i.value * 2 + c.bit_at.result < 65536
fitting c =
    let l = c.loop-i in
    let a = c.args in
    omega (arith, longer c, field_at-lt a.image.now a.at (l.i + 1), pow_mono {i = l.i + 1} {j = 16} (search rules))

pub loop-i-init : goal.loop-i-init
unfolding field_at
loop-i-init c = refl

pub overflow_mul-value : goal.overflow_mul-value
overflow_mul-value c =
    let l = c.loop-i in
    omega (arith, l.invariant, field_at-lt c.args.image.now c.args.at l.i, pow_mono {i = l.i} {j = 15} (omega arith))

pub overflow_add-value : goal.overflow_add-value
overflow_add-value c = omega (arith, fitting (goal.at.overflow_add-value c).After-bit_at)

pub loop-i-preserved : goal.loop-i-preserved
loop-i-preserved c = longer (goal.at.loop-i-preserved c).After-bit_at
