-- Facts, rules, end, in reading order.
use Rattle.std.proofs.Common.{rules, ◌≡◌, ◌∙◌, sym, ap, ap₂, arith, ℕ, List, ◌++◌, ◌-◌, ◌*◌, length, take, drop}
use borrow.Rule.Slice.PartMut.{same_len_mid}
use Rattle.meaning.specs.Model.{Fact, Rule}
use Rattle.meaning.specs.Read.{read_got, times}
use Rattle.meaning.specs.Numbers.{finer}
use Rattle.layout.specs.Rows.{sizes, facts_in, rules_in}
use Rattle.layout.specs.Walks.{mapped}
use Rattle.meaning.specs.Image.{Contents, rule, ending}
use Rattle.read_ranges.specs.Reading.{told_by}
use Rattle.read_image.specs.Whole.{contents_on}
use Rattle.read_image.proofs.WholeLaws.{told-mapped, contents-first, contents-second, contents-third, some_contents}
use Rattle.read_image.proofs.TapeLaws.{put_at, facts-kept-below, heads-laid, rows-laid, rules-laid, facts-still, rules-kept-below}
use Rattle.read_image.proofs.contents.Goals as goal
use Rattle.read_image.proofs.contents.Goals.{After-facts}

-- the tape is as long with the facts as before
long : (c : After-facts) → length (put_at 152 c.args.tape.now c.facts.new.words) ≡ length c.args.tape.now
long c = same_len_mid 152 (length c.args.tape.now - 152) c.args.tape.now c.facts.new.words c.facts.auto.words

pub returns-in_err-facts-clause-kept : goal.returns-in_err-facts-clause-kept
returns-in_err-facts-clause-kept c =
    facts-kept-below c.args.plan c.args.tape.now c.facts.new.words c.requires.2 c.requires.3 (long (goal.at.returns-in_err-facts-clause-kept c).After-facts)

pub returns-in_err-facts-clause-tape_after : goal.returns-in_err-facts-clause-tape_after
returns-in_err-facts-clause-tape_after c =
    let a = c.args in
    let bad = contents-first a.plan.version (sizes a.plan.buffers a.types.now) a.plan.facts a.plan.rules a.reader.now.image a.reader.now.at _ _ c.in_err-facts.ensures.value in
    search (rules, bad)

pub returns-in_err-rules-clause-kept : goal.returns-in_err-rules-clause-kept
returns-in_err-rules-clause-kept c =
    rules-kept-below c.args.plan c.args.tape.now c.facts.new.words c.requires.2 c.requires.3 (long (goal.at.returns-in_err-rules-clause-kept c).After-facts) c.rules.new.words

pub returns-in_err-rules-clause-tape_after : goal.returns-in_err-rules-clause-tape_after
returns-in_err-rules-clause-tape_after c =
    let a = c.args in
    let rules' = rw (c.new-sizes.ensures, c.facts.ensures.follows) at c.in_err-rules.ensures.n_after in
    let bad = contents-second a.plan.version (sizes a.plan.buffers a.types.now) a.plan.facts a.plan.rules a.reader.now.image a.reader.now.at _ _ c.in_ok-facts.ensures.value _ _ rules' in
    search (rules, bad)

pub returns-clause-kept : goal.returns-clause-kept
returns-clause-kept c =
    rules-kept-below c.args.plan c.args.tape.now c.facts.new.words c.requires.2 c.requires.3 (long (goal.at.returns-clause-kept c).After-facts) c.rules.new.words

pub returns-clause-tape_after : goal.returns-clause-tape_after
returns-clause-tape_after c =
    let a = c.args in
    let p = a.plan in
    let s = a.reader.now.image in
    let still = long (goal.at.returns-clause-tape_after c).After-facts in
    let whole = put_at p.heads (put_at 152 a.tape.now c.facts.new.words) c.rules.new.words in
    let facts = facts_in c.facts.new.words p.facts in
    let rs = rules_in c.rules.new.words (drop (4 * p.rules) c.rules.new.words) p.rules in
    let read_rules : read_got rs c.rules.new.reader.at ≡ times p.rules (rule finer p.version (sizes p.buffers a.types.now)) s c.facts.new.reader.at =
    rw (c.new-sizes.ensures, c.facts.ensures.follows) at c.in_ok-rules.ensures.n_after in
    let end = c.finish.ensures ∙ ap (λ (image : List ℕ). ending image c.rules.new.reader.at) (c.rules.ensures.follows ∙ c.facts.ensures.follows) in
    let third = contents-third p.version (sizes p.buffers a.types.now) p.facts p.rules s a.reader.now.at facts c.facts.new.reader.at c.in_ok-facts.ensures.value rs c.rules.new.reader.at read_rules _ end in
    let same : contents_on p whole ≡ some_contents facts rs =
    ap₂ (λ (fs : List Fact) (rs : List Rule). some_contents fs rs)
    (facts-still p a.tape.now c.facts.new.words c.requires.2 c.requires.3 still c.rules.new.words)
    (rules-laid p a.tape.now c.facts.new.words c.requires.2 c.requires.3 still c.rules.new.words) in
    let read =
    told-mapped (λ u. contents_on p whole) c.finish.result c.rules.new.reader
    ∙ ap (λ (x : Contents). mapped (λ u. x) (told_by (λ u. u) c.finish.result c.rules.new.reader)) same
    ∙ third in
    search (rules, read)
