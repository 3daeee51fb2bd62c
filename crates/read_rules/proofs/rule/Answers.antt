-- Head, tests and queries, actions, in reading order.
use Rattle.std.proofs.Common.{rules, ◌≡◌, ◌∙◌, sym, ap, ap₂, List, ℕ, ◌||◌, ◌≤◌, get_or, take, arith}
use Rattle.meaning.specs.Model.{Sizes, Test, Query, Action}
use Rattle.meaning.specs.Read.{Read, read_got, read_refused, follow}
use Rattle.meaning.specs.Numbers.{finer}
use Rattle.meaning.specs.Image.{head, is_tested, rule, actions, body}
use Rattle.laws.specs.RefreshLaws.{is_queried}
use Rattle.layout.specs.Rows.{tests_in, queries_at, actions_in}
use Rattle.layout.proofs.KeptLaws.{begin-alike}
use Rattle.layout.proofs.WordLaws.{below_get}
use Rattle.read_ranges.specs.Reading.{told_by}
use Rattle.read_rules.specs.Heads.{head_in, a_rule, rule_left}
use Rattle.read_rules.proofs.RuleLaws.{rule-bad, rule-on, tests-kept, queries-kept}
use Rattle.read_rules.proofs.rule.Goals as goal
use Rattle.read_rules.proofs.rule.Goals.{In_ok-h, In_ok-conditions}

-- the head, as the definition reads it
read_head : (c : In_ok-h) → let a = c.args in read_got (head_in c.in_ok-h.h) c.head.new.reader.at ≡ head finer a.version a.sizes.now.buffers a.reader.now.image a.reader.now.at
read_head c = rw c.buffers.ensures.value at c.in_ok-h.ensures.value

-- from the head on the definition reads the rest
on : (c : In_ok-h) → let a = c.args in body finer a.version a.sizes.now (head_in c.in_ok-h.h) a.reader.now.image c.head.new.reader.at ≡ rule finer a.version a.sizes.now a.reader.now.image a.reader.now.at
on c = let a = c.args in rule-on a.version a.sizes.now a.reader.now.image a.reader.now.at (head_in c.in_ok-h.h) c.head.new.reader.at (read_head c)

-- and from the tests and queries on what is left
left : (c : In_ok-conditions) → let a = c.args in rule_left a.sizes.now c.in_ok-h.h (tests_in c.conditions.new.own 0 c.in_ok-h.h.tests) (queries_at c.conditions.new.own 0) a.reader.now.image c.conditions.new.reader.at
    ≡ rule finer a.version a.sizes.now a.reader.now.image a.reader.now.at
left c =
    let e = rw c.head.ensures.follows at c.in_ok-conditions.ensures.reads in
    sym e ∙ on (goal.at.In_ok-conditions c).In_ok-h

pub returns-in_err-h-clause-value : goal.returns-in_err-h-clause-value
returns-in_err-h-clause-value c =
    let a = c.args in
    let bad = rule-bad a.version a.sizes.now a.reader.now.image a.reader.now.at _ _ (rw c.buffers.ensures.value at c.in_err-h.ensures.value) in
    search (rules, bad)

pub returns-in_err-conditions-clause-value : goal.returns-in_err-conditions-clause-value
returns-in_err-conditions-clause-value c =
    let e = rw c.head.ensures.follows at c.in_err-conditions.ensures.reads in
    let bad = sym e ∙ on (goal.at.returns-in_err-conditions-clause-value c).In_ok-h in
    search (rules, bad)

pub returns-in_err-actions-clause-value : goal.returns-in_err-actions-clause-value
returns-in_err-actions-clause-value c =
    let a = c.args in
    let h = c.in_ok-h.h in
    let ts = tests_in c.conditions.new.own 0 h.tests in
    let e = rw (c.conditions.ensures.follows, c.head.ensures.follows) at c.in_err-actions.ensures.m_after in
    let bad = ap (λ (r : Read (List Action)). follow r (λ as' end. read_got (a_rule h.utility ts (queries_at c.conditions.new.own 0) as') end)) e
    ∙ left (goal.at.returns-in_err-actions-clause-value c).In_ok-conditions in
    search (rules, bad)

-- what stands after the actions were read
tests-still : (c : In_ok-conditions) → (own : List ℕ) → take 97 own ≡ take 97 c.conditions.new.own → tests_in own 0 c.in_ok-h.h.tests ≡ tests_in c.conditions.new.own 0 c.in_ok-h.h.tests
tests-still c own kept = tests-kept c.conditions.new.own own c.in_ok-h.h.tests c.in_ok-h.ensures.small.tests_few (begin-alike 88 97 c.conditions.new.own own (omega arith) kept)

pub returns-clause-value : goal.returns-clause-value
returns-clause-value c =
    let a = c.args in
    let h = c.in_ok-h.h in
    let w = c.conditions.new.own in
    let own = c.actions.new.rule in
    let acts = actions_in own 97 h.actions in
    let same = tests-still (goal.at.returns-clause-value c).In_ok-conditions own c.actions.ensures.kept in
    let asked = queries-kept w own c.in_ok-conditions.ensures.few c.actions.ensures.kept in
    let e = rw (c.conditions.ensures.follows, c.head.ensures.follows) at c.in_ok-actions.ensures.m_after in
    ap₂ (λ (ts : List Test) (qs : List Query). read_got (a_rule h.utility ts qs acts) c.actions.new.reader.at) same asked
    ∙ ap (λ (r : Read (List Action)). follow r (λ as' end. read_got (a_rule h.utility (tests_in w 0 h.tests) (queries_at w 0) as') end)) e
    ∙ left (goal.at.returns-clause-value c).In_ok-conditions

pub returns-clause-fits : goal.returns-clause-fits
returns-clause-fits c =
    let h = c.in_ok-h.h in
    let w = c.conditions.new.own in
    let own = c.actions.new.rule in
    let few = c.in_ok-conditions.ensures.few in
    let same = tests-still (goal.at.returns-clause-fits c).In_ok-conditions own c.actions.ensures.kept in
    let asked = queries-kept w own few c.actions.ensures.kept in
    record {
      tests_few = c.in_ok-h.ensures.small.tests_few;
      queries_few = omega (arith, below_get 97 w own c.actions.ensures.kept 88 (omega arith), few);
      actions_few = c.in_ok-h.ensures.small.actions_few;
      mask_is = λ b. c.looked_at-mask.ensures b ∙ ap₂ (λ (ts : List Test) (qs : List Query). is_tested ts b || is_queried qs b) (sym same) (sym asked);
    }
