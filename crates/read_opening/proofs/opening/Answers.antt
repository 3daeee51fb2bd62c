-- What is left of the chunks, read from here and stored from here on, makes the whole.
use Rattle.std.proofs.Common.{rules, ◌∙◌, refl, arith, ap, ℕ}
use Rattle.meaning.specs.Numbers.{finer}
use Rattle.meaning.specs.Read.{read_got}
use Rattle.meaning.specs.Image.{chunk}
use Rattle.meaning.specs.State.{opens}
use Rattle.read_facts.specs.Made.{a_chunk}
use Rattle.read_facts.proofs.StoreLaws.{stored-start, stored-bad, stored-turn, stored-end}
use Rattle.read_opening.specs.Parts.{opening_state}
use Rattle.read_opening.proofs.OpeningLaws.{state_at, state_of, opening-fresh}
use Rattle.read_opening.proofs.opening.Goals as goal

pub loop-i-init : goal.loop-i-init
loop-i-init c =
    let a = c.args in
    record {
      reads = rw c.zero_state-state.ensures (stored-start opens state_of (chunk finer a.types.now 0) _ _ 0 a.n _ (opening_state a.n) (opening-fresh a.n (search rules)));
      follows = refl;
      clock = search rules;
    }

pub returns-in_err-isa-clause-value : goal.returns-in_err-isa-clause-value
returns-in_err-isa-clause-value c =
    let l = c.loop-i in
    let a = c.args in
    let whole = stored-bad opens state_of (chunk finer a.types.now 0) _ l.state.buffers l.i a.n l.i _ (omega arith) _ _ c.in_err-isa.ensures.value ∙ l.invariant.reads in
    search (rules, whole)

pub loop-i-preserved : goal.loop-i-preserved
loop-i-preserved c =
    let l = c.loop-i in
    let a = c.args in
    let e = c.in_ok-isa.ensures in
    let one = a_chunk c.in_ok-isa.isa c.chunk.new.slots in
    record {
      reads = rw e.follows (stored-turn opens state_of (chunk finer a.types.now 0) _ l.state.buffers l.i a.n l.i _ (omega arith) one _ _ c.opens.ensures e.value ∙ l.invariant.reads);
      follows = search rules;
      clock = search rules;
    }

pub returns-clause-value : goal.returns-clause-value
returns-clause-value c =
    let l = c.loop-i in
    let a = c.args in
    ap (λ (t : ℕ). read_got (state_at l.state.buffers t) l.reader.at) l.invariant.clock
    ∙ stored-end opens state_of (chunk finer a.types.now 0) _ l.state.buffers l.i a.n l.i _ (omega arith) ∙ l.invariant.reads
