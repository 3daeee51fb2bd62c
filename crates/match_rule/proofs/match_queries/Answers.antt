-- `match_rule::match_queries` meets its contract: the queries that are left give what all give, and one that does not hold shuts the rule.
use Prim.Native.Nat.{ℕ, ◌+◌, ◌/◌, ◌%◌, ◌<◌}
use mathlib.Core.Path.{◌≡◌, sym, ap, ◌∙◌}
use native.Mathlib.Omega.{arith}
use borrow.Author.Rules.{rules}
use lib.ListN.{get_or}
use Rattle.meaning.specs.Image.{ask_of}
use Rattle.match_rule.specs.Shut.{is_hit}
use Rattle.match_rule.proofs.MadeLaws.{not-hit}
use Rattle.match_rule.proofs.QueryLaws.{answered, asked-hit, queries-end, queries-turn, refused, because-asked}
use Rattle.match_rule.specs.declared.Tried.TheVariants.{Hit}
use Rattle.match_rule.proofs.match_queries.Goals as goal
use Rattle.match_rule.proofs.match_queries.Goals.{After-ask-tried}

-- the query at which the loop is
abbrev query : (c : After-ask-tried) → ℕ
query c = let a = c.args in get_or a.rule.now.words (a.rule.now.at + 89 + c.loop-i.i) 0

-- what was found is whether it holds
holds : (c : After-ask-tried) → is_hit c.ask-tried.result ≡ answered (ask_of (query c / 8)) c.args.state.now (query c % 8)
holds c = ap is_hit c.ask-tried.ensures ∙ rw (c.words-words.ensures.value, c.at-o.ensures) (asked-hit (ask_of (query c / 8)) c.args.state.now (query c % 8))

more : (c : After-ask-tried) → let a = c.args in c.loop-i.i < get_or a.rule.now.words (a.rule.now.at + 88) 0
more c = omega (arith, c.loop-i-test.true, c.queries-m.ensures.value)

pub loop-i-preserved : goal.loop-i-preserved
loop-i-preserved c =
    let a = c.args in
    let hit : c.ask-tried.result ≡ Hit = search rules in
    let yes = sym (holds (goal.at.loop-i-preserved c).After-ask-tried) ∙ ap is_hit hit in
    λ clock. queries-turn a.rule.now.words a.state.now clock (a.rule.now.at + 89) c.queries-m.result c.loop-i.i c.loop-i-test.true yes ∙ c.loop-i.invariant clock

pub returns-then-ne : goal.returns-then-ne
returns-then-ne c =
    let a = c.args in
    let other : c.ask-tried.result ≡ Hit → ⊥ = search rules in
    let missed = not-hit c.ask-tried.result other in
    let low = more (goal.at.returns-then-ne c).After-ask-tried in
    record {
      by_index = λ clock. missed ∙ sym (refused a.rule.now.words a.rule.now.at c.loop-i.i low a.state.now clock (sym (holds (goal.at.returns-then-ne c).After-ask-tried) ∙ missed));
      because = λ n. rw (c.ask-tried.ensures, c.words-words.ensures.value, c.at-o.ensures) (because-asked a.rule.now.words a.state.now a.rule.now.at c.loop-i.i n low);
    }

pub returns-clause-by_index : goal.returns-clause-by_index
returns-clause-by_index c =
    let a = c.args in
    λ clock. sym (queries-end a.rule.now.words a.state.now clock (a.rule.now.at + 89) c.queries-m.result c.loop-i.i (omega arith)) ∙ c.loop-i.invariant clock
