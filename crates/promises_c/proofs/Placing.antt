-- Request 2026-03 for C: a number, a count and a position are read back off every answer, and the position is that of the first field for which the image is refused, else 0.
use Rattle.std.specs.Prelude.{◌≡◌, true, List, ℕ, ◌*◌, ◌≤◌, ◌<◌, length}
use Rattle.meaning.specs.Model.{Model}
use Rattle.meaning.specs.Read.{read_refused, read_got}
use Rattle.meaning.specs.Image.{decode}
use Rattle.meaning.specs.Calls.{open_of, run_lent, run_of, refresh_of}
use Rattle.meaning.specs.Fresh.{fresh_lent, fresh_of}
use Rattle.jirvuntsag.specs.Words.{state_of, fits}
use Rattle.jirvuntsag.specs.Told.{answer, length_in, open_in, run_in, refresh_in}
use Rattle.jirvuntsag.specs.Fresh.{fresh_in}
use Rattle.jirvuntsag.specs.Lent.{run_lent_in, fresh_lent_in}
use Rattle.promises.specs.Places.{Located}
use Rattle.promises_c.specs.Handing.{number_in, position_in, Reads}
use Rattle.promises_c.proofs.Proofs.Calling as calling
use Rattle.promises_c.proofs.Proofs.Alone as alone
use Rattle.promises_c.proofs.Proofs.Placed as placed

-- ---- an answer taken apart

-- What an answer is made of is read back off it: a number and a count of 16 bits, and any position.
pub answer-reads : (number count position : ℕ) → number < 65536 → count < 65536 → Reads (answer number count position) number count position
answer-reads number count position n k = calling.answer-reads number count position n k

module _ (image : List ℕ) where
  -- ---- "the words that a table needs": the number tells an image that is refused from one without rules

  pub length-accepted : (m : Model) (end : ℕ) → decode image ≡ read_got m end → Reads (length_in image) 0 (9 * length m.rules) 0
  length-accepted m end accepted = placed.length-accepted image m end accepted

  pub length-refused : (n at : ℕ) → decode image ≡ read_refused n at → (0 < n) × Reads (length_in image) n 0 at
  length-refused n at refused = placed.length-refused image n at refused

  -- ---- the other calls: what is read off the answer is what the definition says (the steps asked have 16 bits)

  pub open-reads : (table : List ℕ) → let o = open_of image table in Reads (open_in image table).answered o.number 0 o.position
  open-reads table = placed.open-reads image table

  -- and of a state in words that each fit their field:
  module _ (w : List ℕ) (fit : fits w ≡ true) where
    pub run-reads : (table : List ℕ) (steps : ℕ) → steps ≤ 65535 → let r = run_of image (state_of w) table steps in Reads (run_in image w table steps).answered r.number r.made r.position
    run-reads table steps few = calling.run-reads image w fit table steps few

    -- (with any words of a store beside it, lent or not, too)
    pub run-lent-reads : (table : List ℕ) (steps lent : ℕ) (store : List ℕ) → steps ≤ 65535
        → let r = (run_lent image (state_of w) table steps lent store).answer in Reads (run_lent_in image w table steps lent store).answer.answered r.number r.made r.position
    run-lent-reads table steps lent store few = calling.lent_reads image w fit table steps lent store few

    pub refresh-reads : (mark : ℕ) (table : List ℕ) → let r = refresh_of image (state_of w) mark table in Reads (refresh_in image w mark table).answered r.number r.count r.position
    refresh-reads mark table = placed.refresh-reads image w fit mark table

    pub fresh-reads : (steps : ℕ) → steps ≤ 65535 → let r = fresh_of image (state_of w) steps in Reads (fresh_in image w steps).answered r.number r.made r.position
    fresh-reads steps few = alone.fit-reads image w steps fit few

    pub fresh-lent-reads : (steps lent : ℕ) (store : List ℕ) → steps ≤ 65535
        → let r = (fresh_lent image (state_of w) steps lent store).answer in Reads (fresh_lent_in image w steps lent store).answer.answered r.number r.made r.position
    fresh-lent-reads steps lent store few = alone.lent_reads image w steps lent store fit few

  -- ---- "from every call the position of the offending field's first bit for 2, 3 and these, else 0": whatever words, each fitting its field or not

  pub length-tells : Located image (number_in (length_in image)) (position_in (length_in image))
  length-tells = placed.length-tells image

  pub open-tells : (table : List ℕ) → let a : ℕ = (open_in image table).answered in Located image (number_in a) (position_in a)
  open-tells table = placed.open-tells image table

  pub run-tells : (w table : List ℕ) (steps : ℕ) → steps ≤ 65535 → let a : ℕ = (run_in image w table steps).answered in Located image (number_in a) (position_in a)
  run-tells w table steps few = placed.run-tells image w table steps few

  pub run-lent-tells : (w table : List ℕ) (steps lent : ℕ) (store : List ℕ) → steps ≤ 65535
      → let a : ℕ = (run_lent_in image w table steps lent store).answer.answered in Located image (number_in a) (position_in a)
  run-lent-tells w table steps lent store few = placed.lent-tells image w table steps lent store few

  pub refresh-tells : (w : List ℕ) (mark : ℕ) (table : List ℕ) → let a : ℕ = (refresh_in image w mark table).answered in Located image (number_in a) (position_in a)
  refresh-tells w mark table = placed.refresh-tells image w mark table

  pub fresh-tells : (w : List ℕ) (steps : ℕ) → steps ≤ 65535 → let a : ℕ = (fresh_in image w steps).answered in Located image (number_in a) (position_in a)
  fresh-tells w steps few = placed.fresh-tells image w steps few

  pub fresh-lent-tells : (w : List ℕ) (steps lent : ℕ) (store : List ℕ) → steps ≤ 65535
      → let a : ℕ = (fresh_lent_in image w steps lent store).answer.answered in Located image (number_in a) (position_in a)
  fresh-lent-tells w steps lent store few = placed.fresh-lent-tells image w steps lent store few
