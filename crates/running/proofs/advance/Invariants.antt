use Prim.Native.Nat.{ℕ, ◌≤◌}
use mathlib.Core.Path.{◌≡◌}
use mathlib.Core.List.{List}
use mathlib.Core.Option.{Option}
use lib.ListN.{length}
use Rattle.meaning.specs.declared.State.{State}
use Rattle.meaning.specs.Model.{Model, Chunk}
use Rattle.meaning.specs.Run.{Run}
use Rattle.layout.specs.declared.Plan.{Plan}
use Rattle.layout.specs.StateWords.{state_in}
use Rattle.layout.specs.Plans.{Planned}
use Rattle.step_retrieve.specs.Chains.{ChainsOn}
use Rattle.step_learn.specs.Knows.{Knows}
use Rattle.step_note.proofs.TurnLaws as turns
use Rattle.running.proofs.advance.Given as goal

abbrev pub answered : {Left : Type 0} → ℕ → Left → ℕ → ℕ × Left × ℕ
answered number left made = (number, left, made)

-- of a model and a store: what the store has become, that plan and tape know it, and that what is left gives what the whole run gives
pub record Since {Left : Type 0} (run : Model → ℕ → Left → Run Left) (left₀ left : State → Option (List Chunk) → Left) (m : Model) (store₀ : Option (List Chunk))
    (steps : ℕ) (state₀ : List ℕ) (clock : ℕ) (events₀ : List ℕ) (p : Plan) (tape state events : List ℕ) (now made : ℕ) : Type 0 where
  pub store : Option (List Chunk)
  pub knows : Knows p tape m store
  pub so_far : turns.SoFar answered (run m) steps (left₀ (state_in state₀ clock) store₀) events₀ made (left (state_in state now) store) events

abbrev pub invariant-loop-made : goal.invariant-loop-made
invariant-loop-made g l = record {
  within : l.made ≤ l.steps;
  in_time : l.now ≤ 4294967295;
  state_size : length l.state ≡ length l.initial.state;
  tape_size : length l.tape ≡ length l.initial.tape;
  events_size : length l.events ≡ length l.initial.events;
  news_size : length l.news ≡ 88;
  planned : Planned l.known l.tape;
  chains : ChainsOn l.known l.tape;
  ready : g.E.Engine.ready l.engine l.known l.tape l.state;
  lent : g.E.Engine.lent l.engine ≡ g.E.Engine.lent l.initial.engine;
  since : (m : Model) (store₀ : Option (List Chunk)) → Knows l.initial.known l.initial.tape m store₀
      → Since g.E.Engine.run (g.E.Engine.left l.initial.engine) (g.E.Engine.left l.engine) m store₀ l.steps l.initial.state l.clock l.initial.events l.known l.tape l.state l.events l.now l.made;
}
