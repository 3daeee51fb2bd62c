-- A place in an image.
use Rattle.std.specs.Prelude.{ℕ, List}

-- the image's bytes, and the bit that is read next
pub record Cursor : Type 0 where
  pub image : List ℕ
  pub at : ℕ
