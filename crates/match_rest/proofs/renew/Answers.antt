-- `match_rest::renew` meets its contract: the entries below 64 w are as the refresh makes them, and what holds between two steps holds.
use Rattle.match_rest.proofs.RenewLaws.{woken-rests, renewed-none, visitable, rests-on, renewed-turn, Surer, lying-beside, joined-beside, surer-turn, sure-on}
use Rattle.match_rest.proofs.EntryLaws.{refresh-is}
use Rattle.layout.specs.StateWords.{state_in}
use Rattle.layout.specs.Rows.{rule_in}
use lib.ListN.{length, get_or, length-set}
use lib.Bits.{bit_and, and_le_l}
use native.Mathlib.Omega.{arith}
use mathlib.Core.Logic.{inl, inr, ⊎_elim}
use mathlib.Core.Path.{refl, sym, ◌∙◌}
use Prim.Native.Nat.{◌+◌, ◌*◌, ◌/◌, ◌%◌, ◌^◌, ◌<◌}
use Rattle.match_rest.proofs.renew.Goals as goal
use Rattle.match_rest.proofs.renew.Goals.{After-slice_known-in-loop-w-1, At-loop-w, In-loop-w}

small : (c : After-slice_known-in-loop-w-1) → let l = c.loop-w in bit_and c.touched-all.result (get_or l.sets l.w 0) < 2 ^ 64
small c =
    let l = c.loop-w in
    omega (arith, and_le_l c.touched-all.result (get_or l.sets l.w 0))

-- a word with a rule in it, and so one of four
within : (c : In-loop-w) → 64 * c.loop-w.w < c.args.n
within c = omega (arith, c.loop-w-test.true, c.div_ceil-w-end.ensures)

four : (c : In-loop-w) → c.loop-w.w < 4
four c = omega (arith, c.loop-w.invariant.2.roomy.few, within c)

-- who is sure was so when the call began, or tests or queries a marked buffer: waking makes nobody sure
surer-woken : (c : At-loop-w) → let a = c.args in Surer a.heads.now a.words.now a.n a.mark a.sets.now c.loop-w.sets
surer-woken c k h is =
    ⊎_elim (λ old. inl (sym (c.wake_all.ensures.kept (48 + k / 64) (k % 64) (omega arith) (omega (arith, c.loop-w.invariant.2.roomy.few))) ∙ old)) (λ m. inr m) (c.loop-w.invariant.4 k h is)

pub loop-w-init : goal.loop-w-init
loop-w-init c =
    let a = c.args in (
      refl,
      refl,
      woken-rests a.heads.now a.words.now a.order.now a.n a.mark c.requires.before a.state.now a.table.now a.sets.now c.wake_all.new.sets c.requires.kept
          c.requires.resting.lying.roomy.few c.wake_all.ensures c.requires.ranked c.requires.resting.lying,
      renewed-none a.heads.now a.words.now a.n a.state.now a.mark a.table.now,
      λ k h is. inl is,
    )

pub visit_all-requires : goal.visit_all-requires
visit_all-requires c =
    let l = c.loop-w in
    let a = c.args in (
      c.requires.buffers,
      four (goal.at.visit_all-requires c).In-loop-w,
      visitable a.heads.now a.words.now a.order.now a.n a.state.now a.mark l.w c.touched-all.result l.table l.sets c.requires.laid c.requires.ranked
          (l.invariant.0 ∙ c.requires.entries) l.invariant.2 c.touched-all.ensures (within (goal.at.visit_all-requires c).In-loop-w) (small (goal.at.visit_all-requires c).After-slice_known-in-loop-w-1),
    )

pub loop-w-preserved : goal.loop-w-preserved
loop-w-preserved c =
    let l = c.loop-w in
    let a = c.args in
    let fits = l.invariant.0 ∙ c.requires.entries in
    let room : 48 + l.w < length c.visit_all.new.sets = omega (arith, four (goal.at.loop-w-preserved c).In-loop-w, c.visit_all.ensures.size, l.invariant.2.roomy.least) in
    let lies = rests-on a.heads.now a.words.now a.order.now a.n a.state.now a.mark l.w c.touched-all.result l.table l.sets c.requires.laid c.requires.ranked
    fits l.invariant.2 c.touched-all.ensures (within (goal.at.loop-w-preserved c).In-loop-w) (small (goal.at.loop-w-preserved c).After-slice_known-in-loop-w-1) a.table.now l.invariant.3 c.visit_all.new.table c.visit_all.new.sets c.visit_all.ensures in
    let surer = l.invariant.4 in
    let beside = joined-beside a.heads.now a.words.now a.n a.mark l.w c.touched-all.result c.wake_all.new.sets l.sets c.requires.laid l.invariant.2.testing c.touched-all.ensures
    surer c.visit_all.new.sets c.visit_all.ensures.sure room in (
      c.visit_all.ensures.entries ∙ l.invariant.0,
      length-set c.visit_all.new.sets (48 + l.w) _ ∙ c.visit_all.ensures.size ∙ l.invariant.1,
      lying-beside a.heads.now a.words.now a.order.now a.n a.state.now c.visit_all.new.table c.visit_all.new.sets _ (length-set c.visit_all.new.sets (48 + l.w) _)
          (λ j i d. beside j i (λ e. d (omega arith) (omega (arith, four (goal.at.loop-w-preserved c).In-loop-w)))) c.requires.ranked lies,
      renewed-turn a.heads.now a.words.now a.order.now a.n a.state.now a.mark l.w c.touched-all.result l.table l.sets c.requires.laid c.requires.ranked
          fits l.invariant.2 c.touched-all.ensures (within (goal.at.loop-w-preserved c).In-loop-w) (small (goal.at.loop-w-preserved c).After-slice_known-in-loop-w-1) a.table.now l.invariant.3 c.visit_all.new.table c.visit_all.new.sets c.visit_all.ensures,
      surer-turn a.heads.now a.words.now a.n a.mark l.w c.touched-all.result c.wake_all.new.sets l.sets c.requires.laid l.invariant.2.testing c.touched-all.ensures surer
          c.visit_all.new.sets c.visit_all.ensures.sure room l.invariant.2.roomy.few,
    )

pub returns-clause-by_index : goal.returns-clause-by_index
returns-clause-by_index c =
    let l = c.loop-w in
    let a = c.args in
    let heads = a.heads.now in
    let words = a.words.now in
    let surer : Surer heads words a.n a.mark a.sets.now l.sets = surer-woken (goal.at.returns-clause-by_index c).At-loop-w in
    λ clock. refresh-is (rule_in heads words) (state_in a.state.now clock) a.mark a.n a.table.now l.table (l.invariant.0 ∙ c.requires.entries)
    (λ k h. l.invariant.3.made k h (omega (arith, c.div_ceil-w-end.ensures)) clock)

pub returns-clause-rests : goal.returns-clause-rests
returns-clause-rests c =
    let l = c.loop-w in
    let a = c.args in
    let heads = a.heads.now in
    let words = a.words.now in
    let surer : Surer heads words a.n a.mark a.sets.now l.sets = surer-woken (goal.at.returns-clause-rests c).At-loop-w in
    record {
      lying = l.invariant.2;
      sure =
          sure-on heads words a.n c.requires.before a.state.now a.mark a.table.now l.table a.sets.now l.sets c.requires.kept c.requires.resting.sure
          surer (λ k h clock. l.invariant.3.made k h (omega (arith, c.div_ceil-w-end.ensures)) clock);
    }
