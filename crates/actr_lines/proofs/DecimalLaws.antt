-- The fewest digits of a number are one width, which the definition finds.
use Rattle.std.specs.Prelude.{if◌then◌else◌}
use Prim.Native.Nat.{ℕ, zero, suc, ◌+◌, ◌-◌, ◌^◌, ◌≤◌, ◌<◌}
use mathlib.Core.Path.{◌≡◌, refl, ap, ◌∙◌}
use mathlib.Core.Bool.{true, false}
use mathlib.Core.List.{List}
use native.Mathlib.Omega.{arith}
use native.Mathlib.Nat.{pow-suc}
use borrow.Author.Tests.{ltb-true, ltb-false}
use lib.Dec.{ltb}
use lib.ListN.{length, take}
use Rattle.laws.specs.BaseLaws.{by-lt}
use Rattle.io.specs.Digits.{last_digits, IsDigitCount}
use Rattle.actr_lines.specs.Text.{width_from, decimal}
use Rattle.actr_lines.specs.Written.{Written}
use Rattle.actr_lines.proofs.WrittenLaws.{written_as}

ten-pos : (k : ℕ) → 1 ≤ 10 ^ k
ten-pos zero = omega arith
ten-pos (suc k) = omega (arith, pow-suc 10 k, ten-pos k)

ten-up : (j k : ℕ) → 10 ^ j ≤ 10 ^ (j + k)
ten-up j zero = let e : j + 0 ≡ j = omega arith in rw e (omega arith)
ten-up j (suc k) = let e : j + suc k ≡ suc (j + k) = omega arith in rw e (omega (arith, pow-suc 10 (j + k), ten-up j k))

below-ten : (k : ℕ) → k ≤ 10 ^ k
below-ten zero = omega arith
below-ten (suc k) = omega (arith, pow-suc 10 k, ten-pos k, below-ten k)

-- fewer digits than the fewest do not hold the number
past : (n j k : ℕ) → 1 ≤ j → j < k → IsDigitCount 10 1 n k → 10 ^ j ≤ n
past n j k l q f =
    let e : j + (k - 1 - j) ≡ k - 1 = omega arith in
    let u : 10 ^ j ≤ 10 ^ (k - 1) = rw e at (ten-up j (k - 1 - j)) in
    omega (arith, u, f.2 (omega arith))

-- the search from j on finds k, if k is not behind and near enough
width-from : (tries j n k : ℕ) → 1 ≤ j → j ≤ k → k ≤ j + tries → IsDigitCount 10 1 n k → k ≡ width_from tries j n
width-from zero j n k l h near f = omega arith
width-from (suc tries) j n k l h near f =
    (elim (ltb n (10 ^ j)) as (λ t. ltb n (10 ^ j) ≡ t → k ≡ (if t then j else width_from tries (j + 1) n)) [
      | true ↦ λ t. is-here (ltb-true n (10 ^ j) t)
      | false ↦ λ t. width-from tries (j + 1) n k (omega arith) (further (ltb-false n (10 ^ j) t)) (omega arith) f
    ]) refl
  where
    is-here : n < 10 ^ j → k ≡ j
    is-here t = by-lt j k (λ q. absurd (omega (arith, past n j k l q f))) (λ q. omega arith)

    further : 10 ^ j ≤ n → j + 1 ≤ k
    further t =
        by-lt j k (λ q. omega arith)
        (λ q.
        let e : k ≡ j = omega arith in
        let u : n < 10 ^ j = rw e at f.1 in
        absurd (omega arith))

width_is : (n k : ℕ) → IsDigitCount 10 1 n k → k ≡ width_from n 1 n
width_is n k f = width-from n 1 n k (omega arith) f.0 near f
  where
    near : k ≤ 1 + n
    near = by-lt 1 k (λ q. omega (arith, below-ten (k - 1), f.2 q)) (λ q. omega arith)

-- a number of 32 bits has ten digits at most
pub few-digits : (n k : ℕ) → n < 2 ^ 32 → IsDigitCount 10 1 n k → k ≤ 10
few-digits n k h f = by-lt 10 k (λ q. absurd (omega (arith, past n 10 k (omega arith) q f))) (λ q. q)

-- the digits that were found and put are the number's
pub decimal-put : {before after : List ℕ} {at end : ℕ} (out : List ℕ) (n k : ℕ) → n < 2 ^ 32 → k ≡ length (take k out) → IsDigitCount 10 1 n k → take k out ≡ last_digits 10 k n
    → Written before at after end (length (take k out)) (take k out) → Written before at after end 10 (decimal n)
unfolding decimal
decimal-put out n k h c f e w =
    written_as (e ∙ ap (λ (k : ℕ). last_digits 10 k n) (width_is n k f)) (omega (arith, c, few-digits n k h f)) w
