-- `layout_state::lay_state` meets its contract: the buffers below k stand in words, and laying one more keeps them.
use mathlib.Core.Path.{refl}
use borrow.Author.Rules.{rules}
use native.Mathlib.Omega.{arith}
use Rattle.layout.specs.Rows.{rows_in}
use Rattle.layout_state.proofs.LayLaws.{length-mapped, lay-more, flags-more}
use Rattle.layout_state.proofs.lay_state.Goals as goal

pub loop-k-init : goal.loop-k-init
unfolding rows_in
loop-k-init c = (search (rules, length-mapped), refl, refl, λ k h. absurd (omega arith))

pub loop-k-preserved : goal.loop-k-preserved
loop-k-preserved c =
    let l = c.loop-k in
    let a = c.args in (
      l.invariant.0,
      search rules,
      lay-more l.words _ l.k a.state.buffers (omega (arith, l.invariant.0)) l.invariant.2 c.lay_buffer.ensures.k_after.0 c.lay_buffer.ensures.k_after.1,
      flags-more l.words _ l.k l.invariant.3 c.lay_buffer.ensures.flag c.lay_buffer.ensures.k_after.1,
    )
