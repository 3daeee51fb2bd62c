-- What a step comes to with the fresh table: the transition that it makes, or none is left.
use Rattle.std.specs.Prelude.{◌≡◌, ℕ, ◌<◌, length}
use Rattle.std.proofs.Math.Path.{refl}
use Rattle.std.proofs.Common.{arith}
use Rattle.std.proofs.Math.Option.{Option, none, some}
use Rattle.meaning.specs.declared.State.{State}
use Rattle.meaning.specs.Model.{Model}
use Rattle.meaning.specs.State.{buffer_of}
use Rattle.meaning.specs.Match.{fresh_table}
use Rattle.meaning.specs.Choice.{Candidate, utilities, choose}
use Rattle.meaning.specs.Wait.{soonest}
use Rattle.meaning.specs.Step.{step_by, step}
use Rattle.promises.specs.Published.{NoneSelected, apply, no-rule, Final}
use Rattle.promises.proofs.Proofs.Decoded.{RulesGood}
use Rattle.promises.proofs.Proofs.Selection.{chosen_none}
pub use Rattle.promises.proofs.Proofs.TransitionsWait.{Doer, deed-some, soonest-pending, soonest-quiet, least-once, good-deed, transition-once, fresh_step, Outcome, goes, stays}
use Rattle.promises.proofs.Proofs.TransitionsWait.{by-wait, by-fire}

module _ (m : Model) (d : RulesGood m) (s : State) where
  by-choice : (o : Option Candidate) → choose m.rules (utilities m.rules) (fresh_table m.rules s) ≡ o → (fresh_step m d s) ≡ step_by m.failure m.facts s o → (Outcome m d s)
  by-choice none e q = (by-wait m d s) (soonest 0 s.buffers) refl (chosen_none m s e) q
  by-choice (some c) e q = (by-fire m d s) c e q

  pub outcome : (Outcome m d s)
  unfolding step
  outcome = by-choice (choose m.rules (utilities m.rules) (fresh_table m.rules s)) refl refl

  -- where nothing is selected and nothing is pending there is no transition
  pub stays-final : NoneSelected m s → ((b : ℕ) → b < length s.buffers → (buffer_of s b).delay ≡ 0) → Final m s
  stays-final n z e s' (apply {k = k} {r = r} v a g x) = n k r a.numbered a.matching
  stays-final n z e s' (no-rule o l p) = omega (arith, z l.buffer l.there, l.is, l.above)
