-- What is laid out when a run begins.
use Prim.Native.Nat.{ℕ, ◌+◌, ◌*◌, ◌/◌, ◌%◌, ◌≤◌, ◌<◌}
use mathlib.Core.Path.{◌≡◌, sym, ◌∙◌}
use mathlib.Core.Logic.{inl}
use mathlib.Core.Bool.{true, false}
use mathlib.Core.List.{List}
use native.Mathlib.Omega.{arith}
use lib.ListN.{length}
use Rattle.laws.specs.BaseLaws.{no_true}
use Rattle.match_sets.specs.Sets.{has}
use Rattle.match_order.specs.Order.{Ranked, Hitting, place_of}
use Rattle.match_beds.specs.Beds.{Testing, Roomy, Cleared, is_sure}
use Rattle.match_beds.proofs.WakeLaws.{roomy-kept}
use Rattle.match_rest.specs.Rest.{Lying, Resting}

module _ (heads words order : List ℕ) (n : ℕ) (state table s s₁ s₂ s₃ : List ℕ) (roomy : Roomy n s) (size : length s₃ ≡ length s) (ranked : Ranked heads order n)
    (clear : Cleared s) (hitting : Hitting table order s₁ n) (hits-beside : (j i : ℕ) → (4 ≤ j → j < 8 → ⊥) → has s₁ j i ≡ has s j i)
    (testing : Testing heads n s₂) (beside : (j i : ℕ) → (8 ≤ j → j < 40 → ⊥) → has s₂ j i ≡ has s₁ j i)
    (awake : (j i : ℕ) → j < 4 → i < 64 → has s₃ j i ≡ true) (after : (j i : ℕ) → 4 ≤ j → has s₃ j i ≡ has s₂ j i) where
  hit-word : (j i : ℕ) → 4 ≤ j → j < 8 → has s₃ j i ≡ has s₁ j i
  hit-word j i f g = after j i f ∙ beside j i (λ a b. omega arith)

  lying : Lying heads words order n state table s₃
  lying =
      record {
        roomy = roomy-kept n s s₃ size roomy;
        testing = record {
          all = λ b k l h. after (8 + 8 * (k / 64) + b) (k % 64) (omega arith) ∙ testing.all b k l h;
          only = λ b k l h t. testing.only b k l h (sym (after (8 + 8 * (k / 64) + b) (k % 64) (omega arith)) ∙ t);
        };
        hitting = record {
          all = λ k h m. hit-word (4 + place_of order k / 64) (place_of order k % 64) (omega arith) (omega (arith, ranked.low k h, ranked.few)) ∙ hitting.all k h m;
          only = λ p h m. hitting.only p h (sym (hit-word (4 + p / 64) (p % 64) (omega arith) (omega arith)) ∙ m);
        };
        sleeping = λ k h. inl (awake (k / 64) (k % 64) (omega (arith, roomy.few)) (omega arith));
      }

  not-sure : (k : ℕ) → is_sure s₃ k ≡ false
  not-sure k =
      after (48 + k / 64) (k % 64) (omega arith) ∙ beside (48 + k / 64) (k % 64) (λ a b. omega arith) ∙ hits-beside (48 + k / 64) (k % 64) (λ a b. omega arith)
      ∙ clear (48 + k / 64) (k % 64)

  pub laid-to-rest : Resting heads words order n state table s₃
  laid-to-rest = record { lying = lying; sure = λ k h is clock. absurd (no_true (sym is ∙ not-sure k)) }
