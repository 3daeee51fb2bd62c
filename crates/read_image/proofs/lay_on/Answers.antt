-- Header, opening and contents, one after the other, and what stands on the tape at the end.
use Rattle.std.proofs.Common.{rules, ◌≡◌, ◌∙◌, sym, ap, arith, ℕ, List, ◌+◌, ◌≤◌, length, take}
use Rattle.meaning.specs.Read.{read_got}
use Rattle.meaning.specs.Numbers.{finer}
use Rattle.meaning.specs.Image.{Beginning, beginning}
use Rattle.meaning.specs.Calls.{open_state}
use Rattle.layout.specs.declared.Plan.{Plan}
use Rattle.layout.specs.Plans.{types_on, model_on}
use Rattle.layout.proofs.KeptLaws.{types-kept, state-kept, opening-kept}
use Rattle.read_opening.specs.Parts.{opening_state}
use Rattle.read_image.specs.Whole.{beginning_on, contents_on}
use Rattle.read_image.proofs.WholeLaws.{a_model, not-long, placed-starts, places-in, decode-beginning, decode-contents, decode-on}
use Rattle.read_image.proofs.TapeLaws.{beginning-kept}
use Rattle.read_image.proofs.lay_on.Goals as goal
use Rattle.read_image.proofs.lay_on.Goals.{In_ok-types}

pub lay_opening-requires : goal.lay_opening-requires
lay_opening-requires c =
    let b = c.reader-reader.ensures.begins in
    let p = c.plan-plan.ensures.in_bounds in
    let end = ap (λ (p : Plan). p.end) p.starts in
    let same = ap (λ (p : Plan). p.end) c.plan-plan.ensures.value in
    let header = b.reads ∙ sym (not-long _ b.short) in
    (search (rules, header), p, omega (arith, c.requires, end, same))

-- the beginning that was laid out
first : (c : In_ok-types) → read_got (beginning_on c.plan-plan.result c.lay_opening.new.tape) c.lay_opening.new.reader.at ≡ beginning finer c.args.begun.now.image 0
first c = rw c.reader-reader.ensures.value at c.in_ok-types.ensures.reads

-- the types that the rest is read by are those on the tape
same-types : (c : In_ok-types) → take (c.plan-plan.result.declared + 1) c.in_ok-types.types ≡ types_on c.plan-plan.result c.lay_opening.new.tape
same-types c = sym c.in_ok-types.ensures.types

pub returns-in_err-types : goal.returns-in_err-types
returns-in_err-types c =
    let b = c.reader-reader.ensures.begins in
    let bad = decode-beginning c.args.begun.now.image b.short _ _ (rw c.reader-reader.ensures.value at c.in_err-types.ensures.reads) in
    record { reads = search (rules, bad); planned = search rules }

pub returns-in_err-contents : goal.returns-in_err-contents
returns-in_err-contents c =
    let b = c.reader-reader.ensures.begins in
    let types = (goal.at.returns-in_err-contents c).In_ok-types in
    let rest = rw (c.in_ok-types.ensures.follows, c.reader-reader.ensures.value, same-types types) at c.in_err-contents.ensures.tape_after in
    let bad = decode-contents c.args.begun.now.image b.short (beginning_on c.plan-plan.result c.lay_opening.new.tape) _ (first types) _ _ rest in
    record { reads = search (rules, bad); planned = search rules }

pub returns : goal.returns
unfolding model_on open_state
returns c =
    let p = c.plan-plan.result in
    let old = c.lay_opening.new.tape in
    let tape = c.contents.new.tape in
    let kept = c.contents.ensures.kept in
    let b = c.plan-plan.ensures.in_bounds in
    let types = (goal.at.returns c).In_ok-types in
    let declared : p.declared + 1 ≤ 64 = let m = b.bounds.most_declared in omega arith in
    let places = places-in p b in
    let same = beginning-kept p old tape kept declared in
    let rest = rw (c.in_ok-types.ensures.follows, c.reader-reader.ensures.value, same-types types) at c.in_ok-contents.ensures.tape_after in
    let on = decode-on c.args.begun.now.image c.reader-reader.ensures.begins.short (beginning_on p old) _ (first types) (contents_on p tape) c.contents.new.reader.at rest in
    let end = ap (λ (p : Plan). p.end) c.plan-plan.ensures.value in
    rw (← c.plan-plan.ensures.value, c.at.ensures.value) (record {
      reads = ap (λ (x : Beginning). read_got (a_model x (contents_on p tape)) c.contents.new.reader.at) same ∙ on;
      planned = record {
        starts = placed-starts p b.starts;
        room = omega (arith, c.contents.auto.tape, c.lay_opening.auto.tape, c.requires, end);
        some_buffers = b.bounds.some_buffers;
        most_buffers = b.bounds.most_buffers;
        most_declared = b.bounds.most_declared;
        facts_placed = places.0;
        most_places = places.1;
        small = rw (types-kept p old tape kept declared) c.in_ok-types.ensures.small;
        laid = c.in_ok-contents.ensures.laid;
        opens = state-kept p old tape kept ∙ c.in_ok-types.ensures.opens ∙ ap (opening_state p.buffers) (sym (opening-kept p old tape kept));
      };
    })
