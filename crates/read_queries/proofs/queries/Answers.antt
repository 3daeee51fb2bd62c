-- By the version, how many queries there are, and then each.
use Rattle.std.proofs.Common.{◌≡◌, ◌∙◌, arith, sym, refl, true, get_or, set}
use lib.Seq.{get_or-set_same, take-set-le}
use Rattle.meaning.specs.Image.{has_queries}
use Rattle.layout.specs.Rows.{rows_in}
use Rattle.layout.proofs.WordLaws.{below_get}
use Rattle.layout.proofs.KeptLaws.{begin-alike}
use Rattle.read_queries.proofs.QueryLaws.{queries_on, few_if}
use Rattle.read_queries.proofs.queries.Goals as goal
use Rattle.read_queries.proofs.queries.Goals.{After-each_query}

-- the count stays where it was written
stays : (c : After-each_query) → get_or c.each_query.new.own 88 0 ≡ c.in_ok-asked.asked
stays c =
    below_get 89 (set c.args.own.now 88 c.in_ok-asked.asked) c.each_query.new.own c.each_query.ensures.kept 88 (omega arith) ∙ get_or-set_same c.args.own.now 88 _ 0 (omega (arith, c.requires.1))

pub returns-then-not-has_queries-clause-value : goal.returns-then-not-has_queries-clause-value
unfolding rows_in
returns-then-not-has_queries-clause-value c =
    let none = get_or-set_same c.args.own.now 88 0 0 (omega (arith, c.requires.1)) in
    rw (← c.has_queries.ensures, c.if-not-has_queries.true, none) refl

pub returns-then-not-has_queries-clause-kept : goal.returns-then-not-has_queries-clause-kept
returns-then-not-has_queries-clause-kept c = take-set-le 88 c.args.own.now 88 0 (omega arith)

pub returns-clause-value : goal.returns-clause-value
returns-clause-value c =
    let a = c.args in
    let e = rw c.least_queries.ensures at c.in_ok-asked.ensures.value in
    let asks : has_queries a.version ≡ true = sym c.has_queries.ensures ∙ c.if-not-has_queries.false in
    queries_on a.version a.buffers a.tests _ _ _ _ asks e c.each_query.new.own (stays (goal.at.returns-clause-value c).After-each_query) _ _ (rw c.in_ok-asked.ensures.follows at c.each_query.ensures.value)

pub returns-clause-kept : goal.returns-clause-kept
returns-clause-kept c =
    let a = c.args in
    begin-alike 88 89 (set a.own.now 88 c.in_ok-asked.asked) c.each_query.new.own (omega arith) c.each_query.ensures.kept ∙ take-set-le 88 a.own.now 88 _ (omega arith)

pub returns-clause-few : goal.returns-clause-few
returns-clause-few c =
    few_if _ c.each_query.new.own (omega (arith, stays (goal.at.returns-clause-few c).After-each_query, c.in_ok-asked.ensures.bounds.1, c.requires.0))
