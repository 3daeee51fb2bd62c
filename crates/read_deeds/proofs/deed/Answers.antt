-- The kind is judged by its value and by the tests, and each kind reads its own.
use Rattle.std.proofs.Common.{◌∙◌, ◌<◌, refl, sym, rules, arith, get_or-set_same}
use Rattle.meaning.specs.Numbers.{bad_number, bad_buffer}
use Rattle.meaning.specs.Image.{deed}
use Rattle.layout.specs.Rows.{sizes}
use Rattle.read_deeds.proofs.TestedLaws.{is-tested, tested-is, not_tested}
use Rattle.read_deeds.proofs.DeedLaws.{modify-kept, modify-broken, kind-big, kind-missing, kind-kept, kind-broken, modify-says}
use Rattle.read_deeds.proofs.deed.Goals as goal

pub returns-in_err-kind-clause-by_index : goal.returns-in_err-kind-clause-by_index
returns-in_err-kind-clause-by_index c buffers ts b t =
    let a = c.args in
    let refused = kind-missing (sizes buffers a.types.now) a.variables ts b a.reader.now.image a.reader.now.at _ _ c.in_err-kind.ensures.value in
    search (rules, refused)

pub returns-in_err-k-in-0-clause-by_index : goal.returns-in_err-k-in-0-clause-by_index
returns-in_err-k-in-0-clause-by_index c buffers ts b t =
    let a = c.args in
    let none = modify-broken ts b (not_tested ts b (sym c.in_err-k-in-0.ensures.ok_part ∙ t)) in
    let refused = kind-broken (sizes buffers a.types.now) a.variables ts b a.reader.now.image a.reader.now.at _ _ _ bad_buffer c.in_ok-kind.ensures.value c.in-0.is none (omega arith) in
    search (rules, refused)

pub returns-in_ok-k-in-0-clause-by_index : goal.returns-in_ok-k-in-0-clause-by_index
returns-in_ok-k-in-0-clause-by_index c buffers ts b t =
    let a = c.args in
    let r = a.reader.now in
    let z = sizes buffers a.types.now in
    let kind = c.in_ok-kind.ensures in
    let some = sym c.in_ok-k-in-0.ensures.ok_part ∙ t in
    let new = c.deed_for.new in
    kind-kept z a.variables ts b r.image r.at _ _ _ _ kind.value c.in-0.is (modify-kept ts b (is-tested ts b _ some))
    (modify-says z a.variables ts b r.image _ c.deed_for.result new.reader new.row _ (tested-is ts b _ some) c.deed_for.ensures.word (rw kind.follows at c.deed_for.ensures.row_after))

pub returns-in-1-clause-by_index : goal.returns-in-1-clause-by_index
returns-in-1-clause-by_index c buffers ts b t =
    let a = c.args in
    let r = a.reader.now in
    let kind = c.in_ok-kind.ensures in
    kind-kept (sizes buffers a.types.now) a.variables ts b r.image r.at _ _ _ _ kind.value c.in-1.is refl (rw kind.follows at (c.request.ensures.by_index buffers ts b))

pub returns-in-2-clause-by_index : goal.returns-in-2-clause-by_index
unfolding deed
returns-in-2-clause-by_index c buffers ts b t =
    let a = c.args in
    let r = a.reader.now in
    let cleared = get_or-set_same a.row.now 1 64 0 (omega (arith, c.requires.2)) in
    kind-kept (sizes buffers a.types.now) a.variables ts b r.image r.at _ _ _ _ c.in_ok-kind.ensures.value c.in-2.is refl (rw cleared)

pub returns-in_default-clause-by_index : goal.returns-in_default-clause-by_index
returns-in_default-clause-by_index c buffers ts b t =
    let a = c.args in
    let big : 2 < c.in_ok-kind.kind = omega arith in
    let refused = kind-broken (sizes buffers a.types.now) a.variables ts b a.reader.now.image a.reader.now.at _ _ _ bad_number c.in_ok-kind.ensures.value refl (kind-big ts b _ big) (omega arith) in
    search (rules, refused)
