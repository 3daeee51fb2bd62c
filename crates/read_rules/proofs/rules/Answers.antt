-- The rules below k are laid, and what is left is read from here.
use Rattle.std.proofs.Common.{rules, ◌≡◌, ◌∙◌, sym, ap, refl, arith, ℕ, List, ◌++◌, ◌+◌, ◌-◌, ◌*◌, ◌≤◌, ◌<◌, length, take, drop}
use borrow.Rule.Slice.PartMut.{same_len_mid}
use Rattle.meaning.specs.Model.{Rule}
use Rattle.meaning.specs.Read.{Read, Reader, read_got}
use Rattle.meaning.specs.Numbers.{finer}
use Rattle.meaning.specs.Image.{rule}
use Rattle.layout.specs.Rows.{rows_in, rules_in}
use Rattle.layout.proofs.WordLaws.{part-put}
use Rattle.read_rules.specs.Heads.{rule_by}
use Rattle.layout.proofs.LoopLaws.{along, along-start, along-bad, along-turn, along-end}
use Rattle.read_rules.proofs.RowsOfRules.{tape-more, tape-laid, laid_none}
use Rattle.read_rules.proofs.rules.Goals as goal
use Rattle.read_rules.proofs.rules.Goals.{Start}

-- how one rule is read
abbrev one : (c : Start) → Reader Rule
one c = rule finer c.args.version c.args.sizes.now

pub loop-k-init : goal.loop-k-init
unfolding rows_in
loop-k-init c = record { reads = along-start (one (goal.at.loop-k-init c).Start) _ c.args.n _; follows = refl; long = refl; laid = laid_none _ _ }

pub returns-in_err-four-clause-n_after : goal.returns-in_err-four-clause-n_after
returns-in_err-four-clause-n_after c =
    let l = c.loop-k in
    let whole = along-bad (one (goal.at.returns-in_err-four-clause-n_after c).Start) _ c.args.n (rules_in l.words (drop c.args.rows l.words) l.k) l.k _ (omega arith) _ _ c.in_err-four.ensures.value ∙ l.invariant.reads in
    search (rules, whole)

pub loop-k-preserved : goal.loop-k-preserved
loop-k-preserved c =
    let a = c.args in
    let l = c.loop-k in
    let o = a.rows + 185 * l.k in
    let own = c.rule.new.own in
    let four = c.in_ok-four.four in
    let w = take o l.words ++ (own ++ drop (length l.words - o) (drop o l.words)) in
    let here : l.k < a.n = omega arith in
    let as_long : length w ≡ length l.words = same_len_mid o (length l.words - o) l.words own c.rule.auto.own in
    let room : a.rows + 185 * a.n ≤ length l.words = omega (arith, c.requires.2, l.invariant.long) in
    let long : length four ≡ 4 = search rules in
    let put = part-put o l.words own in
    let more = tape-more l.words w _ four own a.rows l.k a.n l.invariant.laid here c.requires.1 room long put as_long c.copy_into.ensures in
    let laid = tape-laid l.words w _ four own a.rows l.k a.n l.invariant.laid here c.requires.1 room long put as_long c.copy_into.ensures c.requires.0 c.in_ok-four.ensures.fits in
    let turn = along-turn (one (goal.at.loop-k-preserved c).Start) _ a.n (rules_in l.words (drop a.rows l.words) l.k) l.k _ here (rule_by four own) _ c.in_ok-four.ensures.value in
    record {
      reads = rw (more, c.in_ok-four.ensures.follows) (turn ∙ l.invariant.reads);
      follows = search rules;
      long = search rules;
      laid = laid;
    }

pub returns-clause-n_after : goal.returns-clause-n_after
returns-clause-n_after c =
    let a = c.args in
    let l = c.loop-k in
    let all : a.n ≡ l.k = omega arith in
    ap (λ (k : ℕ). read_got (rules_in l.words (drop a.rows l.words) k) l.reader.at) all
    ∙ along-end (one (goal.at.returns-clause-n_after c).Start) _ a.n (rules_in l.words (drop a.rows l.words) l.k) l.k _ (omega arith) ∙ l.invariant.reads
