-- `call_refresh::refresh_for` meets its contract: the state is judged before the mark.
use Rattle.std.specs.Prelude.{Err}
use Prim.Native.Nat.{ℕ}
use mathlib.Core.Path.{refl}
use mathlib.Core.List.{List}
use Rattle.layout.specs.Plans.{rules_on, model_on}
use Rattle.laws.specs.PartLaws.{to_end}
use Rattle.call_refresh.proofs.RefreshLaws.{refresh-ill, refresh-mark, refresh-done}
use borrow.Author.Rules.{rules}
use Rattle.call_refresh.proofs.refresh_for.Goals as goal
use Rattle.call_refresh.proofs.refresh_for.Goals.{After-lay_state}

abbrev words : (c : After-lay_state) → List ℕ
words c = c.lay_state.new.words

pub returns-then-not-well_formed : goal.returns-then-not-well_formed
unfolding model_on
returns-then-not-well_formed c =
    let a = c.args in
    refresh-ill a.state a.mark a.table.now (model_on a.plan a.tape.now) _ a.plan.buffers (words (goal.at.returns-then-not-well_formed c).After-lay_state) c.well_formed-2.result c.well_formed-2.ensures
    c.lay_state.ensures.words_after refl refl
    (c.if-not-well_formed.true) (Err c.into.result) (search rules)

pub returns-then-not-mark_allowed : goal.returns-then-not-mark_allowed
unfolding model_on
returns-then-not-mark_allowed c =
    let a = c.args in
    refresh-mark a.state a.mark a.table.now (model_on a.plan a.tape.now) _ a.plan.buffers (words (goal.at.returns-then-not-mark_allowed c).After-lay_state) c.well_formed-2.result
    c.well_formed-2.ensures c.lay_state.ensures.words_after refl refl
    (c.if-not-well_formed.false) c.mark_allowed.result c.mark_allowed.ensures (c.if-not-mark_allowed.true) (Err c.into-then-not-mark_allowed.result) (search rules)

pub returns : goal.returns
unfolding model_on
returns c =
    let a = c.args in
    refresh-done a.state a.mark a.table.now (model_on a.plan a.tape.now) _ a.plan.buffers (words (goal.at.returns c).After-lay_state) c.well_formed-2.result
    c.well_formed-2.ensures c.lay_state.ensures.words_after refl refl
    (c.if-not-well_formed.false) c.mark_allowed.result c.mark_allowed.ensures (c.if-not-mark_allowed.false)
    (rules_on a.plan a.tape.now) refl c.refresh-count.result c.refresh-count.new.table (λ clock. simp to_end at (c.refresh-count.ensures.by_index clock)) (simp to_end at c.refresh-count.ensures.counted)
