-- "A step", the choice of a rule.
use Rattle.std.specs.Prelude.{Bool, List, [], ◌∷◌, map, ℕ, ◌+◌, eqb, get_or, take, drop, ℤ, pos}
use Rattle.std.proofs.Math.Option.{Option, none}
use Rattle.std.specs.Int.Signed.{lt_z}
use Rattle.meaning.specs.Base.{keep}
use Rattle.meaning.specs.Highest.{highest}
use Rattle.meaning.specs.Model.{Rule}

-- a rule with its number, its utility, and "the nine words of one rule"
pub record Candidate : Type 0 where
  pub number : ℕ
  pub rule : Rule
  pub utility : ℤ
  pub entry : List ℕ

-- the rules from number k on, each with the next utility and the next nine words
unfoldable pub candidates : ℕ → List Rule → List ℤ → List ℕ → List Candidate
candidates k [] utilities table = []
candidates k (r ∷ rs) utilities table =
    record { number = k; rule = r; utility = get_or utilities 0 (pos 0); entry = take 9 table } ∷ candidates (k + 1) rs (drop 1 utilities) (drop 9 table)

-- the utilities that the image gives
abbrev pub utilities : List Rule → List ℤ
utilities rules = map (λ (r : Rule). r.utility) rules

-- "Entries whose first word is 1 count as matching, all others as not."
abbrev pub counts : Candidate → Bool
counts c = eqb (get_or c.entry 0 0) 1

abbrev pub lower : Candidate → Candidate → Bool
lower a b = lt_z a.utility b.utility

-- "Among those, the highest utility is chosen, then the lowest number."
unfoldable pub choose : List Rule → List ℤ → List ℕ → Option Candidate
choose rules us table = highest lower none (keep counts (candidates 0 rules us table))
