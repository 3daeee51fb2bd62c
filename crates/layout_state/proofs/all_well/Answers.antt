-- `layout_state::all_well` meets its contract: `all` over the eight numbers is `every` of the buffers.
use mathlib.Core.Path.{refl, ◌∙◌}
use borrow.Author.Rules.{rules}
use borrow.Author.Tests.{tests}
use Rattle.std.proofs.lemmas.Iterator.{YieldsList-from_range}
use Rattle.std.proofs.lemmas.Iterator.Search.{all_from_yields_List}
use Rattle.meaning.specs.State.{well_buffer}
use Rattle.layout.specs.StateWords.{buffer_in}
use Rattle.layout_state.proofs.AllLaws.{all-numbered}
use Rattle.layout_state.proofs.all_well.Goals as goal

pub returns : goal.returns
returns c =
    let w = c.args.words.now in
    let types = c.args.types.now in
    all_from_yields_List (λ k. well_buffer types (buffer_in w k)) _ _ c.all.result c.all.ensures.ran (YieldsList-from_range 0 8 8 refl refl) (λ x b q h. search (rules, tests))
    ∙ all-numbered (well_buffer types) (buffer_in w) 0 8
