-- `call_run::run_for` meets its contract: state and store are judged, and then the model that stands on the tape runs.
use Rattle.std.specs.Prelude.{Result, Err}
use Prim.Native.Nat.{ℕ, ◌*◌}
use mathlib.Core.Path.{◌≡◌, refl, ap, ◌∙◌}
use mathlib.Core.Bool.{true}
use mathlib.Core.List.{List}
use lib.ListN.{length, drop}
use Rattle.meaning.specs.declared.reasons.Refusal.{Refusal}
use Rattle.meaning.specs.Model.{Model}
use Rattle.meaning.specs.Read.{read_got}
use Rattle.meaning.specs.State.{well_formed}
use Rattle.meaning.specs.Store.{store_fits, store_of}
use Rattle.layout.specs.Rows.{fact_in}
use Rattle.layout.specs.Plans.{model_on}
use Rattle.layout.proofs.RowLaws.{rows-length}
use Rattle.step_run.specs.Went.{WentMet}
use Rattle.call_store.specs.Lending.{lent_if}
use Rattle.call_store.proofs.LendLaws.{backing, given_back}
use Rattle.call_store.proofs.AdmitLaws.{taken-by, no-zero, refused-by}
use Rattle.call_run.proofs.RunLaws.{lent_same, left-known, run-unfit, run-went}
use Rattle.call_run.specs.Answers.{answered, given_with}
use borrow.Author.Rules.{rules}
use Rattle.call_run.proofs.run_for.Goals as goal
use Rattle.call_run.proofs.run_for.Goals.{After-admit, After-set_out-went, In_ok-known, Start}

abbrev words : (c : After-admit) → List ℕ
words c = c.admit.new.words

abbrev model : (c : Start) → Model
model c = model_on c.args.plan c.args.tape.now

-- as many facts as the plan says
own : (c : Start) → length (model c).facts ≡ c.args.plan.facts
unfolding model_on
own c = rows-length (λ k. fact_in (drop 152 c.args.tape.now) (11 * k)) 0 c.args.plan.facts

-- the state is well formed, and the store fits
fits : (c : In_ok-known) → (well_formed (model (goal.at.In_ok-known c).Start) c.args.asked.now.state ≡ true) × (store_fits (model (goal.at.In_ok-known c).Start).types (lent_if c.args.plan.learns c.args.store.now) ≡ true)
fits c = taken-by _ _ _ c.in_ok-known.ensures.judged refl

-- the run that was made
went : (c : After-set_out-went) → let a = c.args in WentMet c.set_out-went.result (model (goal.at.After-set_out-went c).Start) (store_of (lent_if a.plan.learns a.store.now)) (words (goal.at.After-set_out-went c).After-admit) c.set_out-went.new.state a.asked.now.state.clock a.table.now c.set_out-went.new.table a.asked.now.steps a.events.now c.set_out-went.new.events c.set_out-went.new.tape
went c =
    c.set_out-went.ensures.went_met (model (goal.at.After-set_out-went c).Start) _ c.in_ok-known.ensures.knows

pub returns-in_err-known : goal.returns-in_err-known
returns-in_err-known c =
    let a = c.args in
    let m = model (goal.at.returns-in_err-known c).Start in
    let why = c.in_err-known.field-0.0 in
    let is : c.from_residual.result ≡ Err (record { reason = why; at = 0 }) = search rules in
    let unfit = refused-by m a.asked.now.state _ c.in_err-known.ensures.judged (no-zero why) in
    let met = run-unfit a.asked.now.state a.table.now a.asked.now.steps m (words (goal.at.returns-in_err-known c).After-admit) c.in_err-known.ensures.stands a.plan.learns a.store.now _ unfit _ (ap (λ (r : Result (Unit {0}) Refusal). answered a.asked.now.state (given_with r a.done.now)) is) a.events.now in
    lent_same _ (read_got m 0) a.asked.now.state a.table.now _ a.asked.now.steps a.events.now _ a.store.now _ a.plan.learns a.asked.now.lent c.requires.5 met

pub give_back-requires : goal.give_back-requires
give_back-requires c =
    let a = c.args in
    (c.set_out-went.ensures.planned, backing a.plan c.set_out-went.result.plan _ a.store.now (model (goal.at.give_back-requires c).Start) c.set_out-went.ensures.planned (own (goal.at.give_back-requires c).Start) (fits (goal.at.give_back-requires c).In_ok-known).1 _ (left-known _ (model (goal.at.give_back-requires c).Start) _ _ _ _ _ _ _ _ _ _ (went (goal.at.give_back-requires c).After-set_out-went)))

pub returns : goal.returns
returns c =
    let a = c.args in
    let met = went (goal.at.returns c).After-set_out-went in
    let left = given_back a.plan c.set_out-went.result.plan _ a.store.now (model (goal.at.returns c).Start) c.set_out-went.ensures.planned (own (goal.at.returns c).Start) (fits (goal.at.returns c).In_ok-known).1 _ (left-known _ (model (goal.at.returns c).Start) _ _ _ _ _ _ _ _ _ _ met) in
    let ran = run-went a.asked.now.state a.table.now a.asked.now.steps (model (goal.at.returns c).Start) (words (goal.at.returns c).After-admit) c.in_ok-known.ensures.stands a.plan.learns a.store.now (fits (goal.at.returns c).In_ok-known).0 (fits (goal.at.returns c).In_ok-known).1
    c.set_out-went.result c.read_state.result c.set_out-went.new.state _ a.events.now _ _ _ c.read_state.ensures met (c.give_back.ensures ∙ left) in
    rw c.number.ensures (lent_same _ (read_got (model (goal.at.returns c).Start) 0) a.asked.now.state a.table.now _ a.asked.now.steps a.events.now _ a.store.now _ a.plan.learns a.asked.now.lent c.requires.5 ran)
