-- The laying of the chains, from the last fact to the first.
use Prim.Native.Nat.{ℕ, zero, suc, ◌+◌, ◌≤◌, ◌<◌}
use mathlib.Core.Path.{◌≡◌, refl, sym, ap, ◌∙◌}
use mathlib.Core.List.{List, ◌++◌}
use native.Mathlib.Omega.{arith}
use Rattle.std.specs.Prelude.{replicate}
use lib.ListN.{length, get_or, set, length-set}
use lib.Seq.{get_or-set_same, get_or-set_other}
use Rattle.laws.specs.BaseLaws.{by-lt}
use Rattle.step_retrieve.specs.Chains.{chain_of, Leap, Chained}

pub by-same : {C : Type 0} (a b : ℕ) → (a ≡ b → C) → ((a ≡ b → ⊥) → C) → C
by-same a b f g = by-lt a b (λ h. g (λ e. omega arith)) (λ h. by-lt b a (λ k. g (λ e. omega arith)) (λ k. f (omega arith)))

-- the chains of the facts from k on
pub record Laid (facts : List ℕ) (n k : ℕ) (index : List ℕ) : Type 0 where
  pub starts : (h : ℕ) → h < 64 → Leap facts n h k (get_or index h 0)
  pub goes_on : (j : ℕ) → k ≤ j → j < n → Leap facts n (chain_of facts j) (j + 1) (get_or index (64 + j) 0)

-- 768 in each of so many words
ended : (m : ℕ) (rest : List ℕ) (h : ℕ) → h < m → get_or (replicate m 768 ++ rest) h 0 ≡ 768
ended zero rest h l = absurd (omega arith)
ended (suc m) rest zero l = refl
ended (suc m) rest (suc h) l = ended m rest h (omega arith)

-- no fact, no chain
pub laid_none : (facts : List ℕ) (n : ℕ) (rest : List ℕ) → n ≤ 768 → Laid facts n n (replicate 64 768 ++ rest)
laid_none facts n rest few =
    record {
      starts = λ h l. rw (ended 64 rest h l) (record { forth = few; between = λ j a b l e. omega arith; lands = λ b. absurd (omega arith); ends = λ b. omega arith });
      goes_on = λ j a b. absurd (omega arith);
    }

pub laid-all : (facts : List ℕ) (n k : ℕ) (index : List ℕ) → k ≡ 0 → 64 + n ≤ length index → Laid facts n k index → Chained index facts n
laid-all facts n k index z room laid = record { room = room; starts = rw z at laid.starts; goes_on = λ j b. laid.goes_on j (omega arith) b }

-- fact k before the others: it goes on where its chain started, and its chain starts with it
module _ (facts : List ℕ) (n k : ℕ) (index : List ℕ) (h : k < n) (room : 64 + n ≤ length index) (laid : Laid facts n (k + 1) index) where
  abbrev own : ℕ
  own = chain_of facts k

  abbrev linked : List ℕ
  linked = set index (64 + k) (get_or index own 0)

  before : (j x : ℕ) → (j ≡ own → ⊥) → Leap facts n j (k + 1) x → Leap facts n j k x
  before j x ne leap =
      record {
        forth = omega (arith, leap.forth);
        between = λ i a b l e. by-same i k (λ s. ne (sym e ∙ ap (chain_of facts) s)) (λ d. leap.between i (omega arith) b l e);
        lands = leap.lands;
        ends = leap.ends;
      }

  pub laid-turn : Laid facts n k (set linked own k)
  laid-turn =
      let size : length linked ≡ length index = length-set index (64 + k) (get_or index own 0) in
      record {
        starts = λ j l. by-same j own
            (λ e. rw (e, get_or-set_same linked own k 0 (omega arith)) (record { forth = omega arith; between = λ i a b l s. omega arith; lands = λ b. refl; ends = λ b. absurd (omega arith) }))
            (λ ne. rw (get_or-set_other linked own j k 0 ne, get_or-set_other index (64 + k) j (get_or index own 0) 0 (λ e. omega arith)) (before j (get_or index j 0) ne (laid.starts j l)));
        goes_on = λ j a b. rw (get_or-set_other linked own (64 + j) k 0 (λ e. omega arith)) (by-same j k
            (λ e. rw (e, get_or-set_same index (64 + k) (get_or index own 0) 0 (omega arith)) (laid.starts own (omega arith)))
            (λ ne. rw (get_or-set_other index (64 + k) (64 + j) (get_or index own 0) 0 (λ e. ne (omega arith))) (laid.goes_on j (omega arith) b)));
      }
