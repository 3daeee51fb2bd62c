-- `step_fire::perform` meets its contract, deed by deed.
use Rattle.std.proofs.Common.{◌≡◌, ◌<◌, ◌≤◌, ◌+◌, ℕ, List, get_or, sym, ap, ◌∙◌, arith}
use Rattle.layout.specs.Rows.{masked_in}
use Rattle.layout.specs.StateWords.{buffer_in}
use Rattle.layout.specs.Plans.{facts_on, rows_on}
use Rattle.step_fire.proofs.ActLaws.{done-modify, done-request, done-clear}
use Rattle.step_fire.proofs.perform.Goals as goal

pub returns-in-0 : goal.returns-in-0
returns-in-0 c =
    let a = c.args in
    let rows = rows_on a.image.now.plan a.image.now.tape in
    let same = ap (λ (l : List ℕ). get_or l (a.q + 1) 0) c.rows-words.ensures in
    let modify = done-modify a.image.now.plan.failure (facts_on a.image.now.plan a.image.now.tape) a.nine.now (buffer_in a.state.now a.k) (get_or rows (a.q + 1) 0) (masked_in rows a.q) (sym same ∙ c.in-0.is) in
    rw modify (rw c.rows-words.ensures at c.modify.ensures)

pub returns-in-1-to-63 : goal.returns-in-1-to-63
returns-in-1-to-63 c =
    let a = c.args in
    let rows = rows_on a.image.now.plan a.image.now.tape in
    let same = ap (λ (l : List ℕ). get_or l (a.q + 1) 0) c.rows-words.ensures in
    let some_type : get_or rows (a.q + 1) 0 ≡ 0 → ⊥ = λ z. omega arith in
    let below : get_or rows (a.q + 1) 0 < 64 = omega arith in
    let request = done-request a.image.now.plan.failure (facts_on a.image.now.plan a.image.now.tape) a.nine.now (buffer_in a.state.now a.k) (get_or rows (a.q + 1) 0) (masked_in rows a.q) some_type below in
    rw request c.request.ensures

pub returns-in_default : goal.returns-in_default
returns-in_default c =
    let a = c.args in
    let rows = rows_on a.image.now.plan a.image.now.tape in
    let same = ap (λ (l : List ℕ). get_or l (a.q + 1) 0) c.rows-words.ensures in
    let some_type : get_or rows (a.q + 1) 0 ≡ 0 → ⊥ = λ z. omega arith in
    let above : 64 ≤ get_or rows (a.q + 1) 0 = omega arith in
    let clear = done-clear a.image.now.plan.failure (facts_on a.image.now.plan a.image.now.tape) a.nine.now (buffer_in a.state.now a.k) (get_or rows (a.q + 1) 0) (masked_in rows a.q) some_type above in
    rw clear c.nil.ensures
