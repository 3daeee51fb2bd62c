-- `read_terms::past` meets its contract: the low bits of the mask, cut out, are its remainder by a power of 2.
use Prim.Native.Nat.{ℕ, ◌-◌, ◌*◌, ◌%◌, ◌^◌}
use mathlib.Core.Path.{◌≡◌, ap}
use mathlib.Core.Bool.{not}
use native.Mathlib.Omega.{arith}
use lib.Pow.{pow_mono}
use lib.Bits.{and_mask, bit_and}
use lib.Dec.{eqb}
use Rattle.read_terms.proofs.past.Goals as goal

pub returns-then-slots-lt8 : goal.returns-then-slots-lt8
returns-then-slots-lt8 c =
    let k = 8 - c.args.slots in
    let f : 1 * 2 ^ k % 65536 ≡ 2 ^ k = omega (arith, pow_mono {i = k} {j = 8} (omega arith)) in
    let g : bit_and c.args.mask (1 * 2 ^ k % 65536 - 1) ≡ c.args.mask % 2 ^ k = rw f (and_mask c.args.mask k) in
    ap (λ (x : ℕ). not (eqb x 0)) g
