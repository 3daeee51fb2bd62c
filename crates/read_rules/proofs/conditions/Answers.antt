-- Tests, the check on variables, queries, each from where the one before it ended.
use Rattle.std.proofs.Common.{rules, ◌≡◌, ◌∙◌, sym, ap, false, true, List, ℕ, take}
use Rattle.meaning.specs.Base.{every, up_from}
use Rattle.meaning.specs.Model.{Test, Query}
use Rattle.meaning.specs.Read.{Read, follow}
use Rattle.meaning.specs.Numbers.{finer}
use Rattle.meaning.specs.Image.{stands_in, queries}
use Rattle.layout.specs.Rows.{tests_in, queries_at}
use Rattle.read_ranges.specs.Reading.{told_by}
use Rattle.read_rules.specs.Heads.{rule_left}
use Rattle.read_rules.proofs.RuleLaws.{tests-bad, unstood, stood, tests-kept}
use Rattle.read_rules.proofs.conditions.Goals as goal

pub returns-in_err-tests : goal.returns-in_err-tests
returns-in_err-tests c =
    let a = c.args in
    let bad = tests-bad a.version a.sizes.now a.reader.now.image a.reader.now.at a.h _ _ c.in_err-tests.ensures.n_after in
    record { reads = search (rules, sym bad); follows = c.tests.ensures.follows; few = search rules }

pub returns-then-not-stood : goal.returns-then-not-stood
returns-then-not-stood c =
    let a = c.args in
    let k : every (stands_in (tests_in c.tests.new.words 0 a.h.tests)) (up_from 0 a.h.variables) ≡ false = search rules in
    let bad = unstood a.version a.sizes.now a.reader.now.image a.reader.now.at a.h _ _ c.in_ok-tests.ensures.n_after k in
    record { reads = rw c.at.ensures.value (sym bad); follows = c.tests.ensures.follows; few = search rules }

pub returns : goal.returns
returns c =
    let a = c.args in
    let s = a.reader.now.image in
    let z = a.sizes.now in
    let own = c.queries.new.own in
    let ts = tests_in c.tests.new.words 0 a.h.tests in
    let k : every (stands_in ts) (up_from 0 a.h.variables) ≡ true = search rules in
    let same : tests_in own 0 a.h.tests ≡ ts = tests-kept c.tests.new.words own a.h.tests c.requires.0.tests_few c.queries.ensures.kept in
    let asked : told_by (λ u. queries_at own 0) c.queries.result c.queries.new.reader ≡ queries finer a.version z.buffers a.h.tests s c.tests.new.reader.at =
    rw (c.buffers.ensures.value, c.tests.ensures.follows) at c.queries.ensures.value in
    let read = stood a.version z s a.reader.now.at a.h ts c.tests.new.reader.at c.in_ok-tests.ensures.n_after k in
    record {
      reads =
          read
          ∙ ap (λ (r : Read (List Query)). follow r (λ qs at. rule_left z a.h ts qs s at)) (sym asked)
          ∙ ap (λ (l : List Test). follow (told_by (λ u. queries_at own 0) c.queries.result c.queries.new.reader) (λ qs at. rule_left z a.h l qs s at)) (sym same);
      follows = c.queries.ensures.follows ∙ c.tests.ensures.follows;
      few = c.queries.ensures.few;
    }
