-- `bench_fetch::field_singly` meets its contract: its test is the definition's own.
use Prim.Native.Nat.{ℕ, ◌+◌}
use mathlib.Core.Path.{refl, sym, ap, ◌∙◌}
use native.Mathlib.Omega.{arith}
use Rattle.meaning.specs.Read.{read_got}
use Rattle.meaning.specs.Image.{anything}
use Rattle.laws.specs.ReadLaws.{field-short, field-kept}
use Rattle.bench_fetch.proofs.field_singly.Goals as goal

pub returns-then-image-at : goal.returns-then-image-at
returns-then-image-at c =
    let a = c.args in
    sym (field-short a.width anything a.image.now a.at (omega (arith, c.if-image-at.true)))

pub returns : goal.returns
returns c =
    let a = c.args in
    ap (λ (v : ℕ). read_got v (a.at + a.width)) c.bits_singly.ensures
    ∙ sym (field-kept a.width anything a.image.now a.at (omega (arith, c.if-image-at.false)) refl)
