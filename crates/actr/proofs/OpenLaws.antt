-- What is printed of an image, by what its opening answers.
use Prim.Native.Nat.{ℕ, ◌*◌}
use mathlib.Core.Path.{◌≡◌, refl, ap, ◌∙◌}
use mathlib.Core.Bool.{true}
use mathlib.Core.List.{List, [], ◌∷◌}
use mathlib.Core.Option.{Option, some}
use borrow.Author.Tests.{eq-eqb}
use lib.ListN.{length, replicate}
use Rattle.meaning.specs.Model.{Model}
use Rattle.meaning.specs.Read.{Read, read_refused, read_got}
use Rattle.meaning.specs.Image.{decode}
use Rattle.meaning.specs.Match.{fresh_table}
use Rattle.meaning.specs.Calls.{accepted, needed_by, needed_of, Opened, open_state, opened_by, open_of, trace_lent}
use Rattle.meaning.specs.Store.{store_in, store_fits, store_of}
use Rattle.meaning.specs.Print.{end, lines_of, printed_by, printed}
use Rattle.laws.specs.MatchLaws.{fresh-length}
use Rattle.laws.specs.CallsLaws.{open-well}

-- ---- an empty store: 2,305 words, each 0

abbrev pub empty : Option (List ℕ)
empty = some (replicate 2305 0)

-- it fits whatever the types are, since no place of it is looked at
empty-fits : (types : List ℕ) → store_fits types empty ≡ true
unfolding store_fits store_in
empty-fits types = refl

-- and holds no chunk
empty_holds : store_of empty ≡ some []
unfolding store_in
empty_holds = refl

-- ---- what is printed

module _ (image table : List ℕ) (room : length table ≡ (needed_of image).words) where
  -- the table has the right length, so the image alone decides
  opened-as : (r : Read Model) → decode image ≡ r → open_of image table ≡ opened_by table r
  unfolding open_of accepted needed_of
  opened-as (read_refused n at) e = rw e
  opened-as (read_got m at) e =
      let l : length table ≡ 9 * length m.rules = room ∙ ap (λ (r : Read Model). (needed_by r).words) e in
      rw (e, eq-eqb (length table) (9 * length m.rules) l)

  lines-as : (r : Read Model) → decode image ≡ r → lines_of (trace_lent image (opened_by table r).state (opened_by table r).table 1000 empty) ≡ printed_by r
  unfolding trace_lent accepted
  lines-as (read_refused n at) e = rw e
  lines-as (read_got m at) e =
      let table' : List ℕ = fresh_table m.rules (open_state m) in
      rw (e, eq-eqb (length table') (9 * length m.rules) (fresh-length m.rules (open_state m)), open-well image m at e, empty-fits m.types, empty_holds)

  module _ (o : Opened) (is : o ≡ open_of image table) where
    -- the run from what open gives has the lines that are printed
    pub printed-run : lines_of (trace_lent image o.state o.table 1000 empty) ≡ printed image
    unfolding printed
    printed-run = ap (λ (o : Opened). lines_of (trace_lent image o.state o.table 1000 empty)) (is ∙ opened-as (decode image) refl) ∙ lines-as (decode image) refl

    -- "A refused opening prints that line alone."
    pub printed-refused : (o.number ≡ 0 → ⊥) → end o.number 0 ∷ [] ≡ printed image
    unfolding printed
    printed-refused z = by (decode image) (is ∙ opened-as (decode image) refl)
      where
        by : (r : Read Model) → o ≡ opened_by table r → end o.number 0 ∷ [] ≡ printed_by r
        by (read_refused n at) e = ap (λ (o : Opened). end o.number 0 ∷ []) e
        by (read_got m at) e = absurd (z (ap (λ (o : Opened). o.number) e))
