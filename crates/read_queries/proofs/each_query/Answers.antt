-- The queries that stand in the words so far, and then what is left from here, are the whole.
use Rattle.std.proofs.Common.{rules, ◌≡◌, ◌∙◌, ◌+◌, ap, arith, refl, ℕ}
use lib.Seq.{take-set-le}
use Rattle.meaning.specs.Read.{read_got}
use Rattle.meaning.specs.Numbers.{finer}
use Rattle.meaning.specs.Image.{query}
use Rattle.layout.specs.Rows.{rows_in, query_by, queries_in}
use Rattle.layout.proofs.LoopLaws.{onward-start, onward-end, onward-bad, onward-turn}
use Rattle.read_queries.proofs.QueryLaws.{queries_next}
use Rattle.read_queries.proofs.each_query.Goals as goal

pub loop-i-init : goal.loop-i-init
unfolding rows_in
loop-i-init c = record { reads = onward-start (query finer c.args.buffers) (λ q. q.buffer) _ c.args.n 0 _; follows = refl; kept = refl; long = refl }

pub returns-in_err-word-clause-value : goal.returns-in_err-word-clause-value
returns-in_err-word-clause-value c =
    let l = c.loop-i in
    let whole = onward-bad (query finer c.args.buffers) (λ q. q.buffer) _ c.args.n (queries_in l.own 89 l.i) l.i l.least _ (omega arith) _ _ c.in_err-word.ensures.value ∙ l.invariant.reads in
    search (rules, whole)

pub loop-i-preserved : goal.loop-i-preserved
loop-i-preserved c =
    let l = c.loop-i in
    let word = c.in_ok-word.word in
    let more = queries_next l.own 89 l.i word (search rules) in
    record {
      reads = rw (more, c.in_ok-word.ensures.follows)
          (onward-turn (query finer c.args.buffers) (λ q. q.buffer) _ c.args.n (queries_in l.own 89 l.i) l.i l.least _ (omega arith) (query_by word) _ c.in_ok-word.ensures.value ∙ l.invariant.reads);
      follows = search rules;
      kept = take-set-le 89 l.own (89 + l.i) word (omega arith) ∙ l.invariant.kept;
      long = search rules;
    }

pub returns-clause-value : goal.returns-clause-value
returns-clause-value c =
    let l = c.loop-i in
    let all : c.args.n ≡ l.i = omega arith in
    ap (λ (k : ℕ). read_got (queries_in l.own 89 k) l.reader.at) all
    ∙ onward-end (query finer c.args.buffers) (λ q. q.buffer) _ c.args.n (queries_in l.own 89 l.i) l.i l.least _ (omega arith) ∙ l.invariant.reads
