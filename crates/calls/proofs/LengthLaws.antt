-- The table's length by the verdict on the image.
use Prim.Native.Nat.{ℕ, ◌*◌}
use mathlib.Core.Path.{◌≡◌, refl, ap}
use mathlib.Core.List.{List}
use Rattle.meaning.specs.Model.{Model}
use Rattle.meaning.specs.Read.{Read, read_refused, read_got}
use Rattle.meaning.specs.Image.{decode}
use Rattle.meaning.specs.Calls.{Needed, needed_by, needed_of}
use Rattle.std.specs.Prelude.{Result}
use Rattle.meaning.specs.declared.reasons.Refusal.{Refusal}
use Rattle.layout.specs.declared.Plan.{Plan}
use Rattle.read_image.specs.Whole.{header_of, verdict, Checked}
use Rattle.read_image.proofs.WholeLaws.{decode-refused}

abbrev needed : ℕ → ℕ → ℕ → Needed
needed number at words = record { number = number; position = at; words = words }

pub length-bad : (image : List ℕ) (x y : ℕ) → read_refused x y ≡ verdict (decode image) → needed x y 0 ≡ needed_of image
unfolding needed_of
length-bad image x y e = go (decode image) e
  where
    go : (r : Read Model) → read_refused x y ≡ verdict r → needed x y 0 ≡ needed_by r
    go (read_refused a b) g = let n : x ≡ a = cc in let p : y ≡ b = cc in rw (n, p)
    go (read_got m q) g = cc

pub length-next : (w : Result ℕ Refusal) (p : Plan) (image : List ℕ) (q : ℕ) → Checked w p image → read_got tt q ≡ verdict (decode image) → needed 0 0 (9 * p.rules) ≡ needed_of image
unfolding needed_of
length-next w p image q checked e = go (decode image) refl e
  where
    go : (r : Read Model) → decode image ≡ r → read_got tt q ≡ verdict r → needed 0 0 (9 * p.rules) ≡ needed_by r
    go (read_refused x y) d g = cc
    go (read_got m z) d g = rw (checked.many m z d)

-- an image whose header is refused
pub length-header : (image : List ℕ) (x y : ℕ) → read_refused x y ≡ header_of image → needed x y 0 ≡ needed_of image
length-header image x y e = length-bad image x y (ap verdict (decode-refused image x y e))
