-- What is left of the values, read from here and stored from here on, makes the whole.
use Rattle.std.proofs.Common.{rules, ◌≡◌, ◌∙◌, arith, refl, replicate}
use Rattle.meaning.specs.Read.{field}
use Rattle.meaning.specs.Image.{anything, eight}
use Rattle.read_facts.proofs.StoreLaws.{stored-start, stored-bad, stored-turn, stored-end}
use Rattle.read_facts.proofs.FactLaws.{eight-fresh}
use Rattle.read_facts.proofs.values.Goals as goal

pub loop-i-init : goal.loop-i-init
loop-i-init c =
    let a = c.args in
    let zeros : c.fill.new.self ≡ replicate 8 0 = search rules in
    record {
      reads = rw zeros (stored-start (λ x. x) (λ l. l) (field 12 anything) _ _ 0 a.n _ eight (eight-fresh a.n (search rules)));
      follows = refl;
      long = search rules;
    }

pub returns-in_err-slots-clause-value : goal.returns-in_err-slots-clause-value
returns-in_err-slots-clause-value c =
    let l = c.loop-i in
    let whole = stored-bad (λ x. x) (λ l. l) (field 12 anything) _ l.slots l.i c.args.n l.i _ (omega arith) _ _ c.in_err-slots.ensures.value ∙ l.invariant.reads in
    search (rules, whole)

pub loop-i-preserved : goal.loop-i-preserved
loop-i-preserved c =
    let l = c.loop-i in
    record {
      reads = rw c.in_ok-slots.ensures.follows (stored-turn (λ x. x) (λ l. l) (field 12 anything) _ l.slots l.i c.args.n l.i _ (omega arith) _ _ _ refl c.in_ok-slots.ensures.value ∙ l.invariant.reads);
      follows = search rules;
      long = search rules;
    }

pub returns-clause-value : goal.returns-clause-value
returns-clause-value c =
    let l = c.loop-i in
    stored-end (λ x. x) (λ l. l) (field 12 anything) _ l.slots l.i c.args.n l.i _ (omega arith) ∙ l.invariant.reads
