-- `layout_state::rest_unused` meets its contract: `all` over the numbers past the count is `every` of the buffers there.
use Prim.Native.Nat.{◌-◌}
use mathlib.Core.Path.{refl, ◌∙◌}
use borrow.Author.Rules.{rules}
use borrow.Author.Tests.{tests}
use Rattle.std.proofs.lemmas.Iterator.{YieldsList-from_range}
use Rattle.std.proofs.lemmas.Iterator.Search.{all_from_yields_List}
use Rattle.meaning.specs.State.{is_unused}
use Rattle.layout.specs.StateWords.{buffer_in}
use Rattle.layout_state.proofs.AllLaws.{all-numbered}
use Rattle.layout_state.proofs.WellLaws.{rest-is}
use Rattle.layout_state.proofs.rest_unused.Goals as goal

pub returns : goal.returns
returns c =
    let w = c.args.words.now in
    let n = c.args.buffers in
    all_from_yields_List (λ k. is_unused (buffer_in w k)) _ _ c.all.result c.all.ensures.ran (YieldsList-from_range n 8 (8 - n) refl refl) (λ x b q h. search (rules, tests))
    ∙ all-numbered is_unused (buffer_in w) n (8 - n) ∙ rest-is w n
