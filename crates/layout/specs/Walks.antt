-- What the code's answers say of a reading.
use Rattle.std.specs.Prelude.{ℕ, ◌≤◌, Bool, ◌&&◌, List, leb, ltb, get_or}
use Rattle.meaning.specs.Read.{Read, read_refused, read_got}

-- what is made of what was read
abbrev pub mapped : {A B : Type 0} → (A → B) → Read A → Read B
mapped f (read_got x q) = read_got (f x) q
mapped f (read_refused n p) = read_refused n p

-- every type has at most eight slots
abbrev pub Small : List ℕ → Type 0
Small types = (k : ℕ) → get_or types k 0 ≤ 8

-- a value from low to below end, as the code judges counts, buffers and types
abbrev pub in_range : ℕ → ℕ → ℕ → Bool
in_range low end n = leb low n && ltb n end
