-- A law of the engine without a table: where no step is left to make, all that was asked is done.
use mathlib.Core.Path.{◌≡◌, refl}
use Rattle.meaning.specs.Model.{Model}
use Rattle.meaning.specs.Run.{ends}
use Rattle.meaning.specs.Fresh.{Moving, fresh_from}

pub run-done : (m : Model) (g : Moving) → fresh_from m 0 g ≡ ends 0 g
unfolding fresh_from
run-done m g = refl
