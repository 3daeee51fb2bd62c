-- `jirvuntsag::lay` meets its contract: the clock stands before the buffers' 88 words.
use mathlib.Core.Path.{◌≡◌, ◌∙◌}
use lib.ListN.{length, length-set}
use borrow.Author.Rules.{rules}
use Rattle.jirvuntsag.proofs.WordLaws.{widen-start, widen-end, words-laid}
use Rattle.jirvuntsag.proofs.lay.Goals as goal

pub loop-i-init : goal.loop-i-init
loop-i-init c =
    let a = c.args in
    (length-set a.words.now 0 a.state.clock ∙ c.told-words, widen-start a.words.now c.lay_state.new.words a.state.clock c.told-words)

pub returns : goal.returns
returns c =
    let l = c.loop-i in
    let b = c.lay_state.new.words in
    let long : length b ≡ 88 = search rules in
    widen-end l.words l.i l.invariant.0 b c.args.state.clock c.loop-i-test.false long l.invariant.1
    ∙ words-laid c.args.state b long c.lay_state.ensures.flags c.lay_state.ensures.words_after
