-- The actions laid so far, and those that are left from here, are the whole; the tests stand apart from them.
use Rattle.std.proofs.Common.{◌≡◌, ◌∙◌, ◌+◌, ◌*◌, ◌≤◌, refl, sym, ap, List, length, arith, rules}
use lib.Seq.{length-sets, take_at}
use Rattle.meaning.specs.Model.{Test}
use Rattle.meaning.specs.Numbers.{finer}
use Rattle.meaning.specs.Image.{action, actions}
use Rattle.laws.specs.PartLaws.{part-long}
use Rattle.layout.specs.Rows.{rows_in, action_in, tests_in, actions_in}
use Rattle.layout.proofs.WordLaws.{lent-sets}
use Rattle.layout.proofs.RowLaws.{action-like, in-more}
use Rattle.layout.proofs.LoopLaws.{onward-start, onward-end, onward-bad, onward-turn}
use Rattle.read_actions.proofs.ActionLaws.{front-tests, back-actions}
use Rattle.read_actions.proofs.actions.Goals as goal

pub loop-i-init : goal.loop-i-init
unfolding rows_in
loop-i-init c =
    let a = c.args in
    let ts = tests_in c.split_at_mut-tests.result.0.now 0 a.n in
    record { reads = onward-start (action finer a.sizes.now a.variables ts) (λ x. x.buffer) a.reader.now.image a.m 0 a.reader.now.at; follows = refl; long = refl }

pub returns-in_err-action-clause-m_after : goal.returns-in_err-action-clause-m_after
returns-in_err-action-clause-m_after c =
    let l = c.loop-i in
    let a = c.args in
    let split = c.split_at_mut-tests in
    let front = split.result.0.now in
    let whole = rw (← split.ensures.value) at (front-tests front split.result.1.now split.ensures.front_len a.n c.requires.1) in
    let refused =
    onward-bad (action finer a.sizes.now a.variables (tests_in front 0 a.n)) (λ x. x.buffer) l.reader.image a.m (actions_in l.rows 0 l.i) l.i l.least l.reader.at c.loop-i-test.true _ _ c.in_err-action.ensures.row_after
    ∙ l.invariant.reads ∙ ap (λ (ts : List Test). actions finer a.sizes.now a.variables ts a.m a.reader.now.image a.reader.now.at) (sym whole) in
    search (rules, refused)

pub returns-in_err-action-clause-kept : goal.returns-in_err-action-clause-kept
returns-in_err-action-clause-kept c =
    let split = c.split_at_mut-tests in
    take_at split.result.0.now _ 97 split.ensures.front_len ∙ split.ensures.front

pub loop-i-preserved : goal.loop-i-preserved
loop-i-preserved c =
    let l = c.loop-i in
    let a = c.args in
    let read = c.in_ok-action.ensures in
    let row = c.action.new.row in
    let q = 11 * l.i in
    let ts = tests_in c.split_at_mut-tests.result.0.now 0 a.n in
    let room : q + 11 ≤ length l.rows = omega (arith, l.invariant.long, c.split_at_mut-tests.ensures.back_len, c.requires.2, c.requires.3, c.loop-i-test.true) in
    let whole : length row ≡ 11 = c.action.auto.row ∙ part-long q 11 l.rows room in
    let written = lent-sets q 11 l.rows row room whole in
    let o : 0 + 11 * l.i ≡ q = omega arith in
    let more = rw o at (in-more action_in action-like l.rows 0 l.i row whole (omega arith)) in
    let turn =
    onward-turn (action finer a.sizes.now a.variables ts) (λ x. x.buffer) l.reader.image a.m (actions_in l.rows 0 l.i) l.i l.least l.reader.at c.loop-i-test.true (action_in row 0) _ read.row_after in
    record {
      reads = rw (written, more, read.follows) (turn ∙ l.invariant.reads);
      follows = read.follows ∙ l.invariant.follows;
      long = ap length written ∙ length-sets l.rows q row ∙ l.invariant.long;
    }

pub returns-clause-m_after : goal.returns-clause-m_after
returns-clause-m_after c =
    let l = c.loop-i in
    let a = c.args in
    let split = c.split_at_mut-tests in
    let front = split.result.0.now in
    let all : l.i ≡ a.m = omega arith in
    let whole = rw (← split.ensures.value) at (front-tests front split.result.1.now split.ensures.front_len a.n c.requires.1) in
    let end =
    rw all at
    (onward-end (action finer a.sizes.now a.variables (tests_in front 0 a.n)) (λ x. x.buffer) l.reader.image a.m (actions_in l.rows 0 l.i) l.i l.least l.reader.at (omega arith) ∙ l.invariant.reads) in
    rw (back-actions front l.rows split.ensures.front_len a.m, whole) end

pub returns-clause-kept : goal.returns-clause-kept
returns-clause-kept c =
    let split = c.split_at_mut-tests in
    take_at split.result.0.now _ 97 split.ensures.front_len ∙ split.ensures.front
