-- A memory that has grown by what a step adds knows what the store knows after the step.
use Prim.Native.Nat.{ℕ}
use mathlib.Core.Path.{◌≡◌, refl, sym, ap, ◌∙◌}
use mathlib.Core.List.{List, [], ◌++◌, append-nil, append_assoc, map, map-append}
use mathlib.Core.Option.{Option, none, some}
use native.Mathlib.Omega.{arith}
use lib.ListN.{length, length-append, length-map}
use Rattle.meaning.specs.declared.State.{State}
use Rattle.meaning.specs.Model.{Model, Chunk, Fact}
use Rattle.meaning.specs.Step.{Event}
use Rattle.meaning.specs.Mark.{is_some}
use Rattle.meaning.specs.Learning.{learned, knowing, adds, store_after}
use Rattle.laws.specs.BaseLaws.{no_true}
use Rattle.layout.specs.declared.Plan.{Plan}
use Rattle.layout.specs.Plans.{model_on, Planned}
use Rattle.layout.specs.Growth.{with_more, Extended}
use Rattle.step_learn.specs.Joins.{adds_on}
use Rattle.step_learn.specs.Knows.{Knows}
use Rattle.step_learn.proofs.AddsLaws.{adds_same, adds-nothing}

-- facts that are added to those of a store
facts-more : (facts : List Fact) (cs new : List Chunk) → (facts ++ map learned cs) ++ map learned new ≡ facts ++ map learned (cs ++ new)
facts-more facts cs new = append_assoc facts (map learned cs) (map learned new) ∙ ap (λ (l : List Fact). facts ++ l) (sym (map-append learned cs new))

abbrev with_these : Model → List Fact → Model
with_these m fs = record { buffers = m.buffers; types = m.types; failure = m.failure; opening = m.opening; facts = fs; rules = m.rules }

module _ (p : Plan) (tape : List ℕ) (p' : Plan) (tape' : List ℕ) (m : Model) (s : State) (e : Event) (planned : Planned p tape)
    (grown : Extended p tape p' tape' (map learned (adds_on p tape s e))) where
  pub knows_more : (store : Option (List Chunk)) → Knows p tape m store → Knows p' tape' m (store_after m s e store)
  knows_more none knows =
      let nothing : map learned (adds_on p tape s e) ≡ [] = ap (map learned) (adds-nothing p tape m s e planned knows) in
      let means : model_on p' tape' ≡ with_more m [] = grown.model ∙ ap (with_more (model_on p tape)) nothing ∙ ap (λ (x : Model). with_more x []) knows.means in
      record {
        means = means ∙ ap (with_these m) (append-nil m.facts);
        lends = ap (λ (q : Plan). q.learns) grown.plan ∙ knows.lends;
        places = λ cs z. absurd (no_true (sym (ap is_some z)));
      }
  knows_more (some cs) knows =
      let new = adds (knowing m (some cs)) s e in
      let same : adds_on p tape s e ≡ new = adds_same p tape m s e planned cs knows in
      let means : model_on p' tape' ≡ with_more (knowing m (some cs)) (map learned new) =
      grown.model ∙ ap (λ (l : List Chunk). with_more (model_on p tape) (map learned l)) same ∙ ap (λ (x : Model). with_more x (map learned new)) knows.means in
      record {
        means = means ∙ ap (with_these m) (facts-more m.facts cs new);
        lends = ap (λ (q : Plan). q.learns) grown.plan ∙ knows.lends;
        places = λ all z.
            let whole : cs ++ new ≡ all = cc in
            let long = length-append cs new in
            let more = length-map (adds_on p tape s e) learned in
            let many = knows.places cs refl in
            let there = ap (λ (q : Plan). q.places) grown.plan in
            let then = ap (λ (q : Plan). q.facts) grown.plan in
            let size = ap length same in
            let total = ap length whole in
            omega arith;
      }
