-- `match_beds::lay_awake` meets its contract: four words are all ones, and the others as they were.
use Rattle.std.proofs.Common.{rules, ◌≡◌, ◌-◌, ◌^◌}
use lib.ListN.{replicate}
use Rattle.match_beds.proofs.LayLaws.{ones_below, ones_beside}
use Rattle.match_beds.proofs.lay_awake.Goals as goal

pub returns : goal.returns
returns c =
    let filled : c.fill.new.self ≡ replicate 4 (2 ^ 64 - 1) = search rules in
    (ones_below c.args.sets.now c.fill.new.self filled, ones_beside c.args.sets.now c.fill.new.self filled)
