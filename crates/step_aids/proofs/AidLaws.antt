-- The order as it is laid on the tape, and how the chains stay while it is.
use Prim.Native.Nat.{ℕ, ◌+◌, ◌-◌, ◌≤◌}
use mathlib.Core.Path.{◌≡◌, ap, ◌∙◌}
use mathlib.Core.List.{List, ◌++◌}
use native.Mathlib.Omega.{arith}
use lib.ListN.{length, take, drop, length-drop}
use borrow.Rule.Slice.PartMut.{same_len_mid}
use Rattle.layout.specs.declared.Plan.{Plan}
use Rattle.layout.specs.Plans.{heads_on, Planned}
use Rattle.layout.proofs.WordLaws.{part-put, part-below, part-own}
use Rattle.layout.proofs.PlanLaws.{sections}
use Rattle.layout.proofs.KeptLaws.{begin-alike, same-below, follows, same-facts, Stays, stays-below, model-kept, planned-kept}
use Rattle.match_order.specs.Order.{Ranked}
use Rattle.match_order.proofs.CountLaws.{ranked-kept}
use Rattle.step_retrieve.specs.Chains.{ChainsOn}
use Rattle.step_retrieve.proofs.AlikeChains.{chained-kept}
use Rattle.step_chains.specs.Laid.{ChainsLaid}
use Rattle.step_chains.proofs.ChainLaws.{planned-chained, model-chained}
use Rattle.step_aids.specs.Aids.{OrderLaid, AidsLaid}

-- ---- an order that was laid in its part of the tape stands there

module _ (p : Plan) (tape own : List ℕ) (planned : Planned p tape) (size : length own ≡ length (take (length tape - p.order) (drop p.order tape))) where
  -- the tape with what its part from there on has become
  abbrev pub ordered : List ℕ
  ordered = take p.order tape ++ (own ++ drop (length tape - p.order) (drop p.order tape))

  inside : p.order ≤ length tape
  inside = omega (arith, (sections planned).order_end)

  as_long : length ordered ≡ length tape
  as_long = same_len_mid p.order (length tape - p.order) tape own size

  put : ordered ≡ take p.order tape ++ own
  put = part-put p.order tape own

  pub order-laid : Ranked (heads_on p tape) own p.rules → OrderLaid p tape ordered
  order-laid ranked =
      let below : take p.order ordered ≡ take p.order tape = ap (take p.order) put ∙ part-below p.order tape own inside in
      let stands : drop p.order ordered ≡ own = ap (drop p.order) put ∙ part-own p.order tape own inside in
      let stays = stays-below p tape ordered planned as_long p.order (omega arith) below in
      record { below = below; order = rw stands (ranked-kept (heads_on p tape) (heads_on p ordered) own p.rules stays.heads ranked) }

-- ---- both, one after the other

module _ (p : Plan) (tape tape₁ tape₂ : List ℕ) (planned : Planned p tape) (chains : ChainsLaid p tape tape₁) (long₁ : length tape₁ ≡ length tape) where
  chained : Planned p tape₁
  chained = planned-chained p tape tape₁ planned chains long₁

  module _ (order : OrderLaid p tape₁ tape₂) (long₂ : length tape₂ ≡ length tape₁) where
    stays : Stays p tape₁ tape₂
    stays = stays-below p tape₁ tape₂ chained long₂ p.order (omega arith) order.below

    -- the chains stay while words after them are written
    chains-stay : ChainsOn p tape₂
    chains-stay =
        let f = follows planned in
        let s = sections chained in
        let same = same-below p.chains (64 + p.facts) tape₁ tape₂ (begin-alike (p.chains + (64 + p.facts)) p.order tape₁ tape₂ (omega arith) order.below) in
        let room : 64 + p.facts ≤ length (drop p.chains tape₂) = omega (arith, length-drop p.chains tape₂) in
        let facts = same-facts p tape₁ tape₂ chained stays in
        chained-kept (drop p.chains tape₁) (drop p.chains tape₂) (drop 152 tape₁) (drop 152 tape₂) p.facts chains.chains room same facts

    pub aids-laid : AidsLaid p tape tape₂
    aids-laid =
        record {
          planned = planned-kept p tape₁ tape₂ chained stays;
          same = model-kept p tape₁ tape₂ chained stays ∙ model-chained p tape tape₁ planned chains long₁;
          aided = record { chains = chains-stay; order = order.order };
        }
