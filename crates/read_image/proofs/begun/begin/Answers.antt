-- The header was read in an image that is not too long, and so its plan fits.
use Rattle.std.proofs.Common.{rules, ◌≡◌, ◌∙◌, ◌≤◌, length, arith}
use Rattle.read_image.specs.Whole.{InBounds}
use Rattle.read_image.proofs.WholeLaws.{not-long, fitting}
use Rattle.read_image.proofs.begun.begin.Goals as goal

pub invariant_of-result : goal.invariant_of-result
invariant_of-result c =
    let s = c.args.image.now in
    let plan = c.in_ok-plan.plan in
    let met = c.in_ok-plan.ensures.met in
    let b : InBounds plan = record { starts = met.starts; bounds = met.bounds } in
    let short : length s ≤ 65536 = omega arith in
    let header = not-long s short in
    record {
      reads = search (rules, header);
      within = search rules;
      short = short;
      in_bounds = b;
      fitting = fitting plan b;
    }
