-- `running::advance` meets its contract: after each turn, what is left to run from here gives what the whole run gives, and plan and tape know what the store does.
use Prim.Native.Nat.{◌+◌, ◌-◌}
use mathlib.Core.Path.{◌≡◌, ◌∙◌}
use native.Mathlib.Omega.{arith}
use Rattle.meaning.specs.Learning.{store_after}
use Rattle.layout.specs.StateWords.{state_in}
use Rattle.step_note.proofs.TurnLaws as turns
use Rattle.step_learn.proofs.KnowsLaws.{knows_more}
use Rattle.step_made.specs.Made.{event_of}
use Rattle.running.proofs.advance.Invariants.{answered}
use Rattle.running.proofs.advance.Goals as goal

pub returns-in-Err-clause-run_met : goal.returns-in-Err-clause-run_met
returns-in-Err-clause-run_met g c =
    let a = c.args in
    let l = c.loop-made in
    let run = g.E.Engine.run in
    let left = g.E.Engine.left in
    let kept = c.in-Err.ensures.kept in
    λ m store knows.
    let so = l.invariant.since m store knows in
    record {
      store' = so.store;
      tells = rw (kept.0, kept.1) (turns.going-stop answered (run m) a.steps (left a.engine.now (state_in a.state.now a.clock) store) a.events.now l.made (left l.engine (state_in l.state l.now) so.store) l.events
          so.so_far c.loop-made-test.true _ (c.in-Err.ensures.stays.rest m so.store (a.steps - (l.made + 1)) so.knows));
      knows = so.knows;
    }

pub loop-made-preserved : goal.loop-made-preserved
loop-made-preserved g c =
    let a = c.args in
    let l = c.loop-made in
    let run = g.E.Engine.run in
    let left = g.E.Engine.left in
    let moves = c.in-Ok.ensures.moves in
    let extended = c.grow-known.ensures.extended in
    let event = event_of c.in-Ok.step.event in
    let s = state_in l.state l.now in
    record {
      within = omega (arith, c.loop-made-test.true);
      in_time = rw c.elapsed.ensures moves.in_time;
      state_size = c.turn.auto.state ∙ l.invariant.state_size;
      tape_size = c.grow-known.auto.tape ∙ l.invariant.tape_size;
      events_size = c.note.auto.events ∙ l.invariant.events_size;
      news_size = c.turn.auto.news ∙ l.invariant.news_size;
      planned = extended.planned;
      chains = c.grow-known.ensures.chains;
      ready = g.met.E.Engine.grows _ l.known c.grow-known.result l.tape c.grow-known.new.tape _ _ l.invariant.planned extended c.in-Ok.ensures.ready;
      lent = c.turn.ensures.lent ∙ l.invariant.lent;
      since = λ m store₀ knows₀.
          let so = l.invariant.since m store₀ knows₀ in
          let store = store_after m s event so.store in
          record {
            store = store;
            knows = knows_more l.known l.tape c.grow-known.result c.grow-known.new.tape m s event l.invariant.planned (rw (moves.added.rows l.now) at extended) so.store so.knows;
            so_far = turns.going-turn answered (run m) a.steps (left a.engine.now (state_in a.state.now a.clock) store₀) a.events.now l.made (left l.engine s so.store) l.events so.so_far c.loop-made-test.true
                (record { clock = l.now + c.elapsed.result; event = event }) (left c.turn.new.self (state_in c.turn.new.state (l.now + c.elapsed.result)) store) _
                (rw c.elapsed.ensures (moves.rest m so.store (a.steps - (l.made + 1)) so.knows)) c.note.ensures;
          };
    }

pub returns-clause-run_met : goal.returns-clause-run_met
returns-clause-run_met g c =
    let a = c.args in
    let l = c.loop-made in
    let run = g.E.Engine.run in
    let left = g.E.Engine.left in
    λ m store knows.
    let so = l.invariant.since m store knows in
    let all : l.made ≡ a.steps = omega (arith, c.loop-made-test.false, l.invariant.within) in
    let here = left l.engine (state_in l.state l.now) so.store in
    let tells = turns.going_end answered (run m) a.steps (left a.engine.now (state_in a.state.now a.clock) store) a.events.now l.made here l.events
    so.so_far (omega (arith, all)) 0 (g.met.E.Engine.done m here) in
    record {
      store' = so.store;
      tells = rw all at tells;
      knows = so.knows;
    }
