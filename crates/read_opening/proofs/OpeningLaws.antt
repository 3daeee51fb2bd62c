-- Slot counts and opening chunks, stored one after the other.
use Prim.Native.Nat.{ℕ, zero, suc, ◌+◌, ◌-◌, ◌≤◌}
use mathlib.Core.Path.{◌≡◌, ap, ◌∙◌}
use mathlib.Core.List.{List, [], ◌∷◌, ◌++◌, map, map-id}
use native.Mathlib.Omega.{arith}
use lib.ListN.{length, set, take, drop, replicate, length-map}
use lib.Seq.{sets, sets-eq, take_at}
use Rattle.meaning.specs.declared.Buffer.{Buffer}
use Rattle.meaning.specs.declared.State.{State}
use Rattle.meaning.specs.Model.{Chunk}
use Rattle.meaning.specs.State.{nil_after, opens}
use Rattle.layout.specs.Walks.{Small}
use Rattle.read_facts.proofs.StoreLaws.{sets-fresh}
use Rattle.read_opening.specs.Parts.{opening_state}

-- ---- slot counts

pub small-zeros : (n : ℕ) → Small (replicate n 0)
small-zeros zero k = omega arith
small-zeros (suc n) zero = omega arith
small-zeros (suc n) (suc k) = small-zeros n k

pub small-set : (l : List ℕ) (i x : ℕ) → x ≤ 8 → Small l → Small (set l i x)
small-set [] i x h s k = s k
small-set (y ∷ l) zero x h s zero = h
small-set (y ∷ l) zero x h s (suc k) = s (suc k)
small-set (y ∷ l) (suc i) x h s zero = s zero
small-set (y ∷ l) (suc i) x h s (suc k) = small-set l i x h (λ j. s (suc j)) k

-- counts stored from 1 on, and the types up to the last of them
pub counts-fresh : (n : ℕ) → n ≤ 63 → (xs : List ℕ) → length xs ≡ n → take (n + 1) (sets (replicate 64 0) 1 (map (λ x. x) xs)) ≡ 0 ∷ xs
counts-fresh n h xs e =
    rw (map-id xs, sets-eq xs (replicate 64 0) 1 (omega arith))
    (take_at (0 ∷ xs) (drop (1 + length xs) (replicate 64 0)) (n + 1) (omega arith))

-- ---- the opening state

-- a state of such buffers, at a clock and at clock 0
abbrev pub state_at : List Buffer → ℕ → State
state_at bs clock = record { buffers = bs; clock = clock }

abbrev pub state_of : List Buffer → State
state_of bs = state_at bs 0

pub opening-fresh : (n : ℕ) → n ≤ 8 → (cs : List Chunk) → length cs ≡ n → state_of (sets (replicate 8 (nil_after 0)) 0 (map opens cs)) ≡ opening_state n cs
opening-fresh n h cs e =
    let l : length (map opens cs) ≡ n = length-map cs opens ∙ e in
    ap state_of (sets-fresh 8 (nil_after 0) (map opens cs) (omega arith) ∙ ap (λ (k : ℕ). map opens cs ++ replicate (8 - k) (nil_after 0)) l)
