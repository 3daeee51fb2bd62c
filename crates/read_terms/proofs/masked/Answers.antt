-- The mask is judged before its terms are read, and the row that says them begins as it did.
use Rattle.std.proofs.Common.{◌∙◌, sym, ap, List, ℕ, true, false, length, set, length-set, length-drop, rules, arith}
use Rattle.meaning.specs.Read.{must}
use Rattle.meaning.specs.Numbers.{bad_mask}
use Rattle.meaning.specs.Image.{a_mask}
use Rattle.laws.specs.BitsLaws.{field_at-lt}
use Rattle.laws.specs.ReadLaws.{field-got}
use Rattle.laws.specs.PartLaws.{to_end}
use Rattle.layout.specs.Rows.{masked_in}
use Rattle.layout.proofs.WordLaws.{part-put}
use Rattle.read_ranges.specs.Reading.{told_by}
use Rattle.read_ranges.proofs.Judged.{missing, kept, broken}
use Rattle.read_terms.proofs.TermLaws.{mask-judged, masked-bad, masked_on, lent_row}
use Rattle.read_terms.proofs.masked.Goals as goal

pub returns-in_err-mask-clause-row_after : goal.returns-in_err-mask-clause-row_after
returns-in_err-mask-clause-row_after c =
    let a = c.args in
    let r = a.reader.now in
    let refused = masked-bad a.variables a.count r.image r.at _ _ (missing 8 r.image r.at (must bad_mask (a_mask a.count)) _ _ c.in_err-mask.ensures.value) in
    search (rules, refused)

pub returns-then-past-clause-row_after : goal.returns-then-past-clause-row_after
returns-then-past-clause-row_after c =
    let a = c.args in
    let r = a.reader.now in
    let refused =
    masked-bad a.variables a.count r.image r.at _ _
    (broken 8 r.image r.at (must bad_mask (a_mask a.count)) _ _ bad_mask c.in_ok-mask.ensures.value (sym (mask-judged a.count _ true c.if-past.ensures)) (omega arith)) in
    search (rules, refused)

pub terms-requires : goal.terms-requires
terms-requires c =
    let a = c.args in
    let r = a.reader.now in
    let g = field-got 8 _ r.image r.at _ _ (sym c.in_ok-mask.ensures.value) in
    let row : List ℕ = set a.row.now 2 c.in_ok-mask.mask in (
      omega (arith, g.is, field_at-lt r.image r.at 8),
      search rules,
      ap length (to_end 3 row) ∙ omega (arith, length-drop 3 row, length-set a.row.now 2 c.in_ok-mask.mask),
    )

pub returns-clause-row_after : goal.returns-clause-row_after
returns-clause-row_after c =
    let a = c.args in
    let r = a.reader.now in
    let mask = c.in_ok-mask.mask in
    let own = c.terms.new.slots in
    let row = part-put 3 (set a.row.now 2 mask) own in
    let rule = kept 8 r.image r.at (must bad_mask (a_mask a.count)) _ _ c.in_ok-mask.ensures.value (sym (mask-judged a.count _ false c.if-past.ensures)) in
    let laid = λ (l : List ℕ). told_by {A = Unit} (λ u. masked_in l 0) c.terms.result c.terms.new.reader in
    let named = λ (l : List _). told_by {A = Unit} (λ u. l) c.terms.result c.terms.new.reader in
    ap laid row ∙ ap named (lent_row a.row.now own mask c.requires.1) ∙ search (rules, c.terms.ensures.slots_after, c.in_ok-mask.ensures.follows, masked_on a.variables a.count r.image r.at mask _ rule)
