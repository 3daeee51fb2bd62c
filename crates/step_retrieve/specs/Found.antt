-- What the number of a fact that is found stands for.
use Rattle.std.specs.Prelude.{ℕ, ◌+◌, ◌*◌, ◌<◌, ◌≡◌, List, Some, None, get_or}
use Rattle.std.specs.Prelude as std
use Rattle.std.proofs.Math.Option.{Option, none, some}
use Rattle.meaning.specs.Model.{Fact}
use Rattle.layout.specs.Rows.{fact_in}

abbrev pub fact_of : List ℕ → std.Option ℕ → Option Fact
fact_of facts (Some k) = some (fact_in facts (11 * k))
fact_of facts None = none

-- the number is below n
abbrev pub Below : std.Option ℕ → ℕ → Type 0
Below (Some k) n = k < n
Below None n = Unit {0}

-- the least activation of a higher fact: one more than that fact's own, and 0 where there is no fact
abbrev pub Weighed : List ℕ → std.Option ℕ → ℕ → Type 0
Weighed facts (Some k) least = least ≡ get_or facts (11 * k + 1) 0 + 1
Weighed facts None least = least ≡ 0
