-- Chains are chains of any facts and in any words that are alike.
use Prim.Native.Nat.{ℕ, ◌+◌, ◌*◌, ◌%◌, ◌≤◌, ◌<◌}
use mathlib.Core.Path.{◌≡◌, sym, ap, ◌∙◌}
use mathlib.Core.List.{List}
use native.Mathlib.Omega.{arith}
use lib.ListN.{length, get_or}
use Rattle.layout.proofs.KeptLaws.{SameTo}
use Rattle.step_retrieve.specs.Chains.{chain_of, Leap, Chained}

module _ (index index' facts facts' : List ℕ) (n : ℕ) (chained : Chained index facts n) (room : 64 + n ≤ length index')
    (same_index : SameTo (64 + n) index index') (same-facts : SameTo (11 * n) facts facts') where
  chain-kept : (k : ℕ) → k < n → chain_of facts' k ≡ chain_of facts k
  chain-kept k h = ap (λ (x : ℕ). x % 64) (same-facts (11 * k + 3) (omega arith))

  leap-kept : (h k x : ℕ) → Leap facts n h k x → Leap facts' n h k x
  leap-kept h k x leap =
      record {
        forth = leap.forth;
        between = λ j a b l e. leap.between j a b l (sym (chain-kept j l) ∙ e);
        lands = λ l. chain-kept x l ∙ leap.lands l;
        ends = leap.ends;
      }

  pub chained-kept : Chained index' facts' n
  chained-kept =
      record {
        room = room;
        starts = λ h l. rw (same_index h (omega arith)) (leap-kept h 0 (get_or index h 0) (chained.starts h l));
        goes_on = λ k l. rw (same_index (64 + k) (omega arith), chain-kept k l) (leap-kept (chain_of facts k) (k + 1) (get_or index (64 + k) 0) (chained.goes_on k l));
      }
