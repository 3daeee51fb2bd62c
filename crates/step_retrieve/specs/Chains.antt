-- Facts in chains: those whose first slots are the same by 64, in rising order, so that a request that names slot 0 looks at one chain alone.
use Rattle.std.specs.Prelude.{ℕ, ◌+◌, ◌*◌, ◌%◌, ◌≤◌, ◌<◌, ◌≡◌, List, length, get_or, drop}
use Rattle.layout.specs.declared.Plan.{Plan}

-- the chain that fact k is in
abbrev pub chain_of : List ℕ → ℕ → ℕ
chain_of facts k = get_or facts (11 * k + 3) 0 % 64

-- of n facts from k on, x is the first of chain h; or there is none, and x is 768 or more, which is no fact's number however many are learned
pub record Leap (facts : List ℕ) (n h k x : ℕ) : Type 0 where
  pub forth : k ≤ x
  pub between : (j : ℕ) → k ≤ j → j < x → j < n → chain_of facts j ≡ h → ⊥
  pub lands : x < n → chain_of facts x ≡ h
  pub ends : n ≤ x → 768 ≤ x

-- word h is where chain h starts, and word 64 + k is where the chain of fact k goes on
pub record Chained (index facts : List ℕ) (n : ℕ) : Type 0 where
  pub room : 64 + n ≤ length index
  pub starts : (h : ℕ) → h < 64 → Leap facts n h 0 (get_or index h 0)
  pub goes_on : (k : ℕ) → k < n → Leap facts n (chain_of facts k) (k + 1) (get_or index (64 + k) 0)

-- the chains of a plan's facts stand in the tape's section for them
abbrev pub ChainsOn : Plan → List ℕ → Type 0
ChainsOn p tape = Chained (drop p.chains tape) (drop 152 tape) p.facts
