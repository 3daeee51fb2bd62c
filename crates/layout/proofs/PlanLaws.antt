-- Where the sections of a plan stand: each begins within the tape, and those whose length the plan gives end there too.
use Prim.Native.Nat.{ℕ, ◌+◌, ◌*◌, ◌≤◌}
use mathlib.Core.Path.{◌≡◌, ap}
use mathlib.Core.List.{List}
use native.Mathlib.Omega.{arith}
use lib.ListN.{length, drop, length-drop}
use Rattle.layout.specs.declared.Plan.{Plan}
use Rattle.layout.specs.Plans.{Planned}

pub record Sections (p : Plan) (tape : List ℕ) : Type 0 where
  pub facts_end : 152 + 11 * p.facts ≤ length tape
  pub places_end : 152 + 11 * p.places ≤ p.chains
  pub facts_room : 11 * p.facts ≤ length (drop 152 tape)
  pub heads_end : p.heads + 4 * p.rules ≤ length tape
  pub rows_end : p.rows + 185 * p.rules ≤ length tape
  pub chains_end : p.chains + 64 + p.facts ≤ p.heads
  pub order_end : p.order + 2 * p.rules ≤ length tape

pub sections : {p : Plan} {tape : List ℕ} → Planned p tape → Sections p tape
sections {p} {tape} planned =
    let e = planned.starts in
    let heads = ap (λ p. p.heads) e in
    let rows = ap (λ p. p.rows) e in
    let chains = ap (λ p. p.chains) e in
    let order = ap (λ p. p.order) e in
    let end = ap (λ p. p.end) e in
    record {
      facts_end = omega (arith, planned.room, planned.facts_placed);
      places_end = omega arith;
      facts_room = omega (arith, planned.room, planned.facts_placed, length-drop 152 tape);
      heads_end = omega (arith, planned.room);
      rows_end = omega (arith, planned.room);
      chains_end = omega (arith, planned.facts_placed);
      order_end = omega (arith, planned.room);
    }
