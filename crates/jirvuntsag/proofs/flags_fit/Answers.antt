-- `jirvuntsag::flags_fit` meets its contract: `all` over the eight numbers is `every` of the flags.
use mathlib.Core.Path.{refl, ◌∙◌}
use lib.Dec.{leb}
use borrow.Author.Rules.{rules}
use borrow.Author.Tests.{tests}
use Rattle.std.proofs.lemmas.Iterator.{YieldsList-from_range}
use Rattle.std.proofs.lemmas.Iterator.Search.{all_from_yields_List}
use Rattle.layout_state.proofs.AllLaws.{all-numbered}
use Rattle.jirvuntsag.specs.Words.{flag_at, flags_fit}
use Rattle.jirvuntsag.proofs.flags_fit.Goals as goal

pub returns : goal.returns
unfolding flags_fit
returns c =
    let w = c.args.words.now in
    all_from_yields_List (λ b. leb (flag_at w b) 1) _ _ c.all.result c.all.ensures.ran (YieldsList-from_range 0 8 8 refl refl) (λ x b q h. search (rules, tests))
    ∙ all-numbered (λ v. leb v 1) (flag_at w) 0 8
