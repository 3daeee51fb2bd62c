-- A call without a table whose image is refused: it ends by the image's number, and the state stays.
use Rattle.std.specs.Prelude.{◌≡◌, List, ℕ}
use Rattle.std.proofs.Math.Path.{refl}
use Rattle.std.proofs.Math.Option.{Option}
use Rattle.meaning.specs.declared.State.{State}
use Rattle.meaning.specs.Read.{read_refused}
use Rattle.meaning.specs.Image.{decode}
use Rattle.meaning.specs.Run.{ends}
use Rattle.meaning.specs.Fresh.{fresh_trace_lent}
use Rattle.promises.specs.Words.{alone}

-- ---- the image is looked at first

-- whatever the state, the steps and the words that are lent
module _ (image : List ℕ) (s : State) (steps : ℕ) (lent : Option (List ℕ)) (n at : ℕ) (d : decode image ≡ read_refused n at) where
  pub fresh-refuses : fresh_trace_lent image s steps lent ≡ ends n (alone s)
  unfolding fresh_trace_lent
  fresh-refuses = rw d refl
