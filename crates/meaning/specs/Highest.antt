-- The highest of a list, the first among equals: rules by utility, facts by activation.
use Rattle.std.specs.Prelude.{if◌then◌else◌, Bool, List, [], ◌∷◌}
use Rattle.std.proofs.Math.Option.{Option, none, some}

module _ {A : Type 0} where
  -- the better of what was best so far and one element more: the later one only if it is higher
  abbrev pub better : (A → A → Bool) → Option A → A → Option A
  better below none x = some x
  better below (some best) x = some (if below best x then x else best)

  -- the highest element; `best` is the best of what went before
  abbrev pub highest : (A → A → Bool) → Option A → List A → Option A
  highest below best [] = best
  highest below best (x ∷ xs) = highest below (better below best x) xs
