-- Chains as they are laid on the tape, and that the model stays.
use Prim.Native.Nat.{ℕ, ◌+◌, ◌*◌}
use mathlib.Core.Path.{◌≡◌, sym, ap, ◌∙◌}
use mathlib.Core.List.{List, ◌++◌}
use native.Mathlib.Omega.{arith}
use lib.ListN.{length, take, drop, length-append}
use lib.Seq.{drop-drop, take_at, drop_at}
use Rattle.std.proofs.lemmas.List.{take_all}
use Rattle.layout.specs.declared.Plan.{Plan}
use Rattle.layout.specs.Plans.{model_on, Planned}
use Rattle.layout.proofs.WordLaws.{below_get}
use Rattle.layout.proofs.PlanLaws.{sections}
use Rattle.layout.proofs.KeptLaws.{begin-alike, drop-alike, same-below, Stays, stays-apart, model-kept, planned-kept}
use Rattle.step_retrieve.specs.Chains.{Chained}
use Rattle.step_retrieve.proofs.AlikeChains.{chained-kept}
use Rattle.step_chains.specs.Laid.{ChainsLaid}

module _ (p : Plan) (tape tape' : List ℕ) (planned : Planned p tape) where
  -- words that stand after the facts and before the heads leave the model
  stays : length tape' ≡ length tape → take p.chains tape' ≡ take p.chains tape → drop p.heads tape' ≡ drop p.heads tape → Stays p tape tape'
  stays long below above =
      let s = sections planned in
      let fit = planned.facts_placed in
      stays-apart p tape tape' planned long (begin-alike (152 + 11 * p.facts) p.chains tape tape' (omega arith) below) above

  -- chains that were laid on the tape after its front, in so many words, stand there
  pub chains-laid : (front back own : List ℕ) → tape ≡ front ++ back → length front ≡ p.chains → length own ≡ 64 + p.facts → Chained own (drop 152 front) p.facts
      → tape' ≡ front ++ (own ++ drop (64 + p.facts) back) → ChainsLaid p tape tape'
  chains-laid front back own whole long many chained e =
      let s = sections planned in
      let fit = planned.facts_placed in
      let m : ℕ = 64 + p.facts in
      let after : List ℕ = drop m back in
      let start : take p.chains tape ≡ front = ap (take p.chains) whole ∙ take_at front back p.chains long in
      let start' : take p.chains tape' ≡ front = ap (take p.chains) e ∙ take_at front (own ++ after) p.chains long in
      let end : drop p.chains tape ≡ back = ap (drop p.chains) whole ∙ drop_at front back p.chains long in
      let end' : drop p.chains tape' ≡ own ++ after = ap (drop p.chains) e ∙ drop_at front (own ++ after) p.chains long in
      let rest : drop (p.chains + m) tape ≡ after = sym (drop-drop m p.chains tape) ∙ ap (drop m) end in
      let rest' : drop (p.chains + m) tape' ≡ after = sym (drop-drop m p.chains tape') ∙ ap (drop m) end' ∙ drop_at own after m many in
      let own-words : take m (own ++ after) ≡ take m own = take_at own after m many ∙ sym (take_all m own (omega arith)) in
      let facts : take (152 + 11 * p.facts) tape' ≡ take (152 + 11 * p.facts) front = begin-alike (152 + 11 * p.facts) p.chains front tape' (omega arith) (start' ∙ sym (take_all p.chains front (omega arith))) in
      record {
        below = start' ∙ sym start;
        above = drop-alike (p.chains + m) p.heads tape tape' (omega arith) (rest' ∙ sym rest);
        chains = rw end' (chained-kept own (own ++ after) (drop 152 front) (drop 152 tape') p.facts chained (omega (arith, length-append own after)) (below_get m own (own ++ after) own-words) (same-below 152 (11 * p.facts) front tape' facts));
      }

  -- the tape means the model that it meant
  module _ (chains : ChainsLaid p tape tape') (long : length tape' ≡ length tape) where
    pub planned-chained : Planned p tape'
    planned-chained = planned-kept p tape tape' planned (stays long chains.below chains.above)

    pub model-chained : model_on p tape' ≡ model_on p tape
    model-chained = model-kept p tape tape' planned (stays long chains.below chains.above)
