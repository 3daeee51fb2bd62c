-- The facts that were read stand in rows, and what is left is read from here.
use Rattle.std.proofs.Common.{rules, ◌≡◌, ◌∙◌, ap, arith, refl, ℕ}
use Rattle.meaning.specs.Read.{read_got}
use Rattle.meaning.specs.Numbers.{finer}
use Rattle.meaning.specs.Image.{fact}
use Rattle.layout.specs.Rows.{rows_in, fact_in, facts_in}
use Rattle.layout.proofs.LoopLaws.{along-start, along-bad, along-turn, along-end}
use Rattle.read_facts.proofs.FactLaws.{facts_more}
use Rattle.read_facts.proofs.facts.Goals as goal

pub loop-i-init : goal.loop-i-init
unfolding rows_in
loop-i-init c = record { reads = along-start (fact finer c.args.types.now) _ c.args.n _; follows = refl; long = refl }

pub returns-in_err-fact-clause-value : goal.returns-in_err-fact-clause-value
returns-in_err-fact-clause-value c =
    let l = c.loop-i in
    let whole = along-bad (fact finer c.args.types.now) _ c.args.n (facts_in l.words l.i) l.i _ (omega arith) _ _ c.in_err-fact.ensures.value ∙ l.invariant.reads in
    search (rules, whole)

pub loop-i-preserved : goal.loop-i-preserved
loop-i-preserved c =
    let l = c.loop-i in
    let more = facts_more l.words l.i c.fact.new.row (search rules) (omega (arith, c.requires.2, l.invariant.long)) in
    record {
      reads = rw (more, c.in_ok-fact.ensures.follows)
          (along-turn (fact finer c.args.types.now) _ c.args.n (facts_in l.words l.i) l.i _ (omega arith) (fact_in c.fact.new.row 0) _ c.in_ok-fact.ensures.value ∙ l.invariant.reads);
      follows = search rules;
      long = search rules;
    }

pub returns-clause-value : goal.returns-clause-value
returns-clause-value c =
    let l = c.loop-i in
    let all : c.args.n ≡ l.i = omega arith in
    ap (λ (k : ℕ). read_got (facts_in l.words k) l.reader.at) all ∙ along-end (fact finer c.args.types.now) _ c.args.n (facts_in l.words l.i) l.i _ (omega arith) ∙ l.invariant.reads
