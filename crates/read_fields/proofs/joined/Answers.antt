-- `read_fields::joined` meets its contract: three bytes, each in its place.
use mathlib.Core.Path.{refl}
use native.Mathlib.Omega.{arith}
use Rattle.read_fields.proofs.Laws.{together}
use borrow.Author.Rules.{rules}
use Rattle.read_fields.proofs.joined.Goals as goal

pub returns : goal.returns
returns c =
    let first = c.type_inv.bytes 0 in
    let second = c.type_inv.bytes 1 in
    let third = c.type_inv.bytes 2 in
    (together c.args.bytes.now 0 _ _ _ (refl, omega (arith, first)) (refl, omega (arith, second)) (refl, omega (arith, third)), omega (arith, second), omega (arith, third))
