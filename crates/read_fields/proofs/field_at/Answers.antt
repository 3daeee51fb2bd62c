-- `read_fields::field_at` meets its contract: where three bytes are there the field is, and else the test is the definition's own.
use Prim.Native.Nat.{ℕ, ◌+◌, ◌*◌, ◌≤◌}
use mathlib.Core.Path.{refl, sym, ap, ◌∙◌}
use mathlib.Core.Logic.{⊎_elim}
use native.Mathlib.Omega.{arith}
use lib.ListN.{length}
use Rattle.meaning.specs.Read.{read_got}
use Rattle.meaning.specs.Image.{anything}
use Rattle.laws.specs.ReadLaws.{field-short, field-kept}
use borrow.Author.Rules.{rules}
use Rattle.read_fields.proofs.field_at.Goals as goal
use Rattle.read_fields.proofs.field_at.Goals.{Joined-image-at, else-image-at, then-image-at+else-image-at-2}

-- by either way the field is wholly there
whole : (c : Joined-image-at) → let a = c.args in a.at + a.width ≤ 8 * length a.image.now
whole c = (elim c.if-image-at.branch [ then-image-at+else-image-at-2 w ↦ omega (arith, w.if-image-at-2.false) | else-image-at w ↦ omega (arith, w.if-image-at.false) ])

pub returns-then-image-at-2 : goal.returns-then-image-at-2
returns-then-image-at-2 c =
    let a = c.args in
    sym (field-short a.width anything a.image.now a.at (omega (arith, c.if-image-at-2.true)))

pub returns : goal.returns
returns c =
    let a = c.args in
    ap (λ (v : ℕ). read_got v (a.at + a.width)) c.bits.ensures ∙ sym (field-kept a.width anything a.image.now a.at (whole (goal.at.returns c).Joined-image-at) refl)
