-- `step_learn::known` meets its contract: the facts that are left tell of all, and those that a leap passes have another chunk.
use Prim.Native.Nat.{◌+◌, ◌*◌, ◌%◌, ◌≤◌, ◌<◌}
use mathlib.Core.Path.{◌≡◌, sym, ◌∙◌}
use mathlib.Core.Bool.{Bool}
use native.Mathlib.Omega.{arith}
use lib.ListN.{get_or, length}
use Rattle.layout.proofs.PlanLaws.{sections}
use Rattle.step_retrieve.specs.Chains.{Leap, Chained}
use Rattle.step_learn.proofs.ChunkLaws.{same_chunk}
use Rattle.step_learn.proofs.JoinLaws.{among-start, among-end, among-here, among-skip, among-leap}
use Rattle.step_learn.proofs.known.Goals as goal
use Rattle.step_learn.proofs.known.Goals.{After-chains-chains, After-same_chunk, In-loop-k}

inside : (c : In-loop-k) → c.loop-k.k < c.plan-n.result.facts
inside c = c.loop-k-test.true

-- the facts stand in chains, and their rows stand there
chained : (c : After-chains-chains) → Chained c.chains-chains.result.now c.facts-facts.result.now c.plan-n.result.facts
chained c = rw (c.facts-facts.ensures, c.chains-chains.ensures, c.plan-n.ensures.value) c.requires.2

room : (c : After-chains-chains) → 11 * c.plan-n.result.facts ≤ length c.facts-facts.result.now
room c = rw (c.facts-facts.ensures, c.plan-n.ensures.value) (sections (rw c.plan-n.ensures.value at c.plan-n.ensures.planned)).facts_room

here : (c : After-same_chunk) (t : Bool) → let a = c.args in c.same_chunk.result ≡ t → same_chunk a.state.now a.b c.facts-facts.result.now (11 * c.loop-k.k) ≡ t
here c t e = sym c.same_chunk.ensures ∙ e

leap : (c : In-loop-k) → let a = c.args in Leap c.facts-facts.result.now c.plan-n.result.facts (get_or a.state.now (11 * a.b + 1) 0 % 64) (c.loop-k.k + 1) (get_or c.chains-chains.result.now (64 + c.loop-k.k) 0)
leap c = rw (c.loop-k.invariant.0 (inside c)) at ((chained (goal.at.In-loop-k c).After-chains-chains).goes_on c.loop-k.k (inside c))

pub same_chunk-requires : goal.same_chunk-requires
same_chunk-requires c = (c.requires.0, c.requires.1, omega (arith, room (goal.at.same_chunk-requires c).After-chains-chains, inside (goal.at.same_chunk-requires c).In-loop-k))

pub loop-k-init : goal.loop-k-init
loop-k-init c =
    let a = c.args in
    let on = (chained (goal.at.loop-k-init c).After-chains-chains).starts (get_or a.state.now (11 * a.b + 1) 0 % 64) (omega arith) in
    (on.lands, among-leap a.state.now a.b c.facts-facts.result.now c.plan-n.result.facts 0 _ (omega arith) on)

pub returns-then-same_chunk : goal.returns-then-same_chunk
returns-then-same_chunk c =
    let a = c.args in
    let l = c.loop-k in
    let facts = c.facts-facts.result.now in
    let n = c.plan-n.result.facts in
    rw (c.facts-facts.ensures, c.plan-n.ensures.value) at
    (sym (among-here a.state.now a.b facts n l.k (inside (goal.at.returns-then-same_chunk c).In-loop-k) (here (goal.at.returns-then-same_chunk c).After-same_chunk _ c.if-same_chunk.true))
    ∙ l.invariant.1 ∙ among-start a.state.now a.b facts n)

pub loop-k-smaller : goal.loop-k-smaller
loop-k-smaller c = omega (arith, (leap (goal.at.loop-k-smaller c).In-loop-k).forth, inside (goal.at.loop-k-smaller c).In-loop-k)

pub loop-k-preserved : goal.loop-k-preserved
loop-k-preserved c =
    let a = c.args in
    let l = c.loop-k in
    let facts = c.facts-facts.result.now in
    let n = c.plan-n.result.facts in
    let on = leap (goal.at.loop-k-preserved c).In-loop-k in (
      on.lands,
      among-leap a.state.now a.b facts n (l.k + 1) _ (omega (arith, inside (goal.at.loop-k-preserved c).In-loop-k)) on
          ∙ among-skip a.state.now a.b facts n l.k (inside (goal.at.loop-k-preserved c).In-loop-k) (here (goal.at.loop-k-preserved c).After-same_chunk _ c.if-same_chunk.false) ∙ l.invariant.1,
    )

pub returns : goal.returns
returns c =
    let a = c.args in
    let l = c.loop-k in
    let facts = c.facts-facts.result.now in
    let n = c.plan-n.result.facts in
    rw (c.facts-facts.ensures, c.plan-n.ensures.value) at (sym (among-end a.state.now a.b facts n l.k c.loop-k-test.false) ∙ l.invariant.1 ∙ among-start a.state.now a.b facts n)
