-- What is left of the counts, read from here and stored from here on, makes the whole.
use Rattle.std.proofs.Common.{rules, ◌∙◌, ◌+◌, ◌∷◌, refl, arith, take}
use Rattle.read_facts.proofs.StoreLaws.{stored-start, stored-bad, stored-turn, stored-end}
use Rattle.read_opening.proofs.OpeningLaws.{small-zeros, small-set, counts-fresh}
use Rattle.read_opening.proofs.slot_counts.Goals as goal
use Rattle.read_opening.proofs.slot_counts.Invariants.{one}

pub loop-t-init : goal.loop-t-init
loop-t-init c =
    let n = c.args.declared in
    record {
      reads = stored-start (λ x. x) (take (n + 1)) one _ _ 1 n _ (λ counts. 0 ∷ counts) (counts-fresh n (search rules));
      follows = refl;
      small = small-zeros 64;
    }

pub returns-in_err-types-clause-value : goal.returns-in_err-types-clause-value
returns-in_err-types-clause-value c =
    let l = c.loop-t in
    let n = c.args.declared in
    let whole = stored-bad (λ x. x) (take (n + 1)) one _ l.types (l.t + 1) n l.t _ (omega arith) _ _ c.in_err-types.ensures.value ∙ l.invariant.reads in
    search (rules, whole)

pub loop-t-preserved : goal.loop-t-preserved
loop-t-preserved c =
    let l = c.loop-t in
    let n = c.args.declared in
    let e = c.in_ok-types.ensures in
    record {
      reads = rw e.follows (stored-turn (λ x. x) (take (n + 1)) one _ l.types (l.t + 1) n l.t _ (omega arith) _ _ _ refl e.value ∙ l.invariant.reads);
      follows = search rules;
      small = small-set l.types (l.t + 1) _ e.bounds.1 l.invariant.small;
    }

pub returns-clause-value : goal.returns-clause-value
returns-clause-value c =
    let l = c.loop-t in
    let n = c.args.declared in
    stored-end (λ x. x) (take (n + 1)) one _ l.types (l.t + 1) n l.t _ (omega arith) ∙ l.invariant.reads
