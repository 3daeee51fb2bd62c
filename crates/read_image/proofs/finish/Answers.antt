-- The bits up to the byte's end, and the image's length.
use Rattle.std.proofs.Common.{rules, ◌≡◌, ◌∙◌, sym, arith, ◌+◌, ◌*◌, length}
use Rattle.meaning.specs.Bits.{field_at}
use Rattle.meaning.specs.Image.{padding}
use Rattle.read_image.proofs.WholeLaws.{end-padding, end-follows, end-right}
use Rattle.read_image.proofs.finish.Goals as goal

pub returns-then-ahead-ne0 : goal.returns-then-ahead-ne0
returns-then-ahead-ne0 c =
    let r = c.args.reader.now in
    let rest : field_at r.image r.at (padding r.at) ≡ 0 → ⊥ = search rules in
    let refused = end-padding r.image r.at rest in
    search (rules, refused)

pub returns-then-at-padding : goal.returns-then-at-padding
returns-then-at-padding c =
    let r = c.args.reader.now in
    let rest : field_at r.image r.at (padding r.at) ≡ 0 = search rules in
    let more : r.at + padding r.at ≡ 8 * length r.image → ⊥ = search rules in
    let refused = end-follows r.image r.at rest more in
    search (rules, refused)

pub returns : goal.returns
returns c =
    let r = c.args.reader.now in
    let rest : field_at r.image r.at (padding r.at) ≡ 0 = search rules in
    let last : r.at + padding r.at ≡ 8 * length r.image = search rules in
    end-right r.image r.at rest last
