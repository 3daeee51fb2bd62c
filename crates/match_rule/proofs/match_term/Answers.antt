-- `match_rule::match_term` meets its contract, by the three kinds of term: a symbol, a new variable, one that was seen.
use mathlib.Core.Path.{refl}
use Rattle.match_rule.proofs.WordMatch.{term-symbol, term-new, term-seen}
use Rattle.match_rule.proofs.match_term.Goals as goal

pub returns-then-term-lt4096 : goal.returns-then-term-lt4096
returns-then-term-lt4096 c = let a = c.args in term-symbol a.bound.now a.nine.now a.value a.term c.if-term-lt4096.true _ refl

pub returns-then-bound-k-eq0 : goal.returns-then-bound-k-eq0
returns-then-bound-k-eq0 c = let a = c.args in term-new a.bound.now a.nine.now a.value a.term c.if-term-lt4096.false c.if-bound-k-eq0.true _ refl

pub returns : goal.returns
returns c = let a = c.args in term-seen a.bound.now a.nine.now a.value a.term c.if-term-lt4096.false c.if-bound-k-eq0.false _ refl
