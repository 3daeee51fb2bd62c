-- `match_rule::entry_into` meets its contract: the match of the tests and queries in words, carried over to the declarative match.
use Rattle.std.specs.Prelude.{if◌then◌else◌}
use Rattle.match_rule.proofs.MadeLaws.{hit-words, not-hit, made}
use Rattle.match_rule.specs.Shut.{is_hit}
use Rattle.match_rule.specs.Words.{vars_in}
use Rattle.match_rule.specs.Run.{Vars, stop, on, entry_words}
use Rattle.match_rule.specs.declared.Tried.{Tried}
use mathlib.Core.Bool.{Bool}
use mathlib.Core.Path.{sym, ap, ◌∙◌}
use Rattle.match_rule.proofs.entry_into.Goals as goal
use Rattle.match_rule.proofs.entry_into.Goals.{After-match_words-tried}

abbrev vars : (c : After-match_words-tried) → Vars
vars c = vars_in c.match_words-tried.new.bound c.match_words-tried.new.nine

pub returns-in-Hit : goal.returns-in-Hit
returns-in-Hit c =
    let a = c.args in
    let size = c.match_words-tried.auto.nine ∙ c.no_entry.auto.nine ∙ c.requires.0 in
    let hit = hit-words c.match_words-tried.new.nine size in
    (made c.match_words-tried.result _ (vars (goal.at.returns-in-Hit c).After-match_words-tried) a.rule.now.words a.rule.now.at a.rule.now.tests a.state.now
    (hit ∙ sym (ap (λ (t : Tried). entry_words (if is_hit t then on (vars (goal.at.returns-in-Hit c).After-match_words-tried) else stop)) c.in-Hit.is)) c.match_words-tried.ensures.by_index c.match_words-tried.ensures.because).fresh

pub returns-in_default : goal.returns-in_default
returns-in_default c =
    let a = c.args in
    let not = not-hit c.match_words-tried.result c.in_default.not-Hit in
    (made c.match_words-tried.result c.no_entry-in_default.new.nine (vars (goal.at.returns-in_default c).After-match_words-tried) a.rule.now.words a.rule.now.at a.rule.now.tests a.state.now
    (c.no_entry-in_default.ensures ∙ sym (ap (λ (b : Bool). entry_words (if b then on (vars (goal.at.returns-in_default c).After-match_words-tried) else stop)) not)) c.match_words-tried.ensures.by_index c.match_words-tried.ensures.because).fresh
