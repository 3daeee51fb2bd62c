-- What is read off each answer for C, and that its position is that of a refused image, else 0.
use Rattle.std.specs.Prelude.{if◌then◌else◌, ◌≡◌, Bool, not, List, [], ◌∷◌, ℕ, suc, ◌*◌, ◌^◌, ◌≤◌, ◌<◌, leb, eqb}
use Rattle.std.proofs.Math.Path.{refl}
use Rattle.std.proofs.Common.{inl, inr, arith}
use Rattle.std.proofs.Math.Bool.{true, false}
use Rattle.std.proofs.Math.Option.{Option, none}
use Rattle.std.proofs.Math.ListN.{length}
use Rattle.meaning.specs.declared.State.{State}
use Rattle.meaning.specs.Base.{admit, keep}
use Rattle.meaning.specs.Numbers.{wrong_table}
use Rattle.meaning.specs.Model.{Model, Rule}
use Rattle.meaning.specs.State.{well_formed}
use Rattle.meaning.specs.Read.{Read, read_refused, read_got}
use Rattle.meaning.specs.Image.{decode}
use Rattle.meaning.specs.Refresh.{tests_marked, refresh_count}
use Rattle.meaning.specs.Store.{lent_by}
use Rattle.meaning.specs.Calls.{fitting, accepted, place_of, open_of, Refreshed, refreshed_by, refresh_of}
use Rattle.jirvuntsag.specs.Words.{state_of, fits}
use Rattle.jirvuntsag.specs.Told.{unfit_by, length_in, open_in, run_in, refresh_in}
use Rattle.jirvuntsag.specs.Fresh.{fresh_in}
use Rattle.jirvuntsag.specs.Lent.{run_lent_in, fresh_lent_in}
use Rattle.laws.specs.ImageLaws.{few-rules}
use Rattle.promises.specs.Places.{Located, nowhere}
use Rattle.promises.proofs.Placing.{position-told, open-position, run-position, run-lent-position, refresh-position, fresh-position, fresh-lent-position}
use Rattle.promises.proofs.Numbers as numbers
use Rattle.promises.proofs.Proofs.Reading.{no_place}
use Rattle.promises.proofs.Proofs.Numbers.{refused-unread, unread-range, open-small, refresh-small}
use Rattle.promises_c.specs.Handing.{number_in, position_in, Reads}
use Rattle.promises_c.proofs.Proofs.Calling.{answer-reads, unfit-small, unfit-reads, told_by, run-told, lent-told, unfit-run, unfit-refresh, run-reads, lent_reads, fit-refresh, by_fits}
use Rattle.promises_c.proofs.Proofs.Alone.{unfit-number, fit-reads, large-reads, lent-large}
use Rattle.promises_c.proofs.Proofs.Alone as alone

-- ---- the table's length

module _ (image : List ℕ) where
  pub length-accepted : (m : Model) (end : ℕ) → decode image ≡ read_got m end → Reads (length_in image) 0 (9 * length m.rules) 0
  unfolding length_in
  length-accepted m end d = rw (numbers.length-accepted image m end d) (answer-reads 0 (9 * length m.rules) 0 (omega arith) (omega (arith, few-rules image m end d)))

  pub length-refused : (n at : ℕ) → decode image ≡ read_refused n at → (0 < n) × Reads (length_in image) n 0 at
  unfolding length_in
  length-refused n at d =
      let few : n < 14 = rw d at (unfit-number image).3 in
      ((unread-range image (refused-unread image n at d)).0, rw (numbers.length-refused image n at d) (answer-reads n 0 at (omega arith) (omega arith)))

-- ---- open and refresh

pub open-reads : (image table : List ℕ) → let o = open_of image table in Reads (open_in image table).answered o.number 0 o.position
unfolding open_in
open-reads image table = let o = open_of image table in answer-reads o.number 0 o.position (omega (arith, open-small image table)) (omega arith)

-- no more rules are counted than there are, and those are at most 256
kept-few : (p : Rule → Bool) (rules : List Rule) → length (keep p rules) ≤ length rules
kept-few p [] = omega arith
kept-few p (r ∷ rs) =
    elim (p r) as (λ t. length (admit t r (keep p rs)) ≤ suc (length rs)) [ true ↦ omega (arith, kept-few p rs) | false ↦ omega (arith, kept-few p rs) ]

few-of : (t : Bool) (a b : Refreshed) → a.count ≤ 256 → b.count ≤ 256 → (if◌then◌else◌ {A = Refreshed} t a b).count ≤ 256
few-of true a b p q = p
few-of false a b p q = q

few-counted : (image : List ℕ) (s : State) (mark : ℕ) (table : List ℕ) → (refresh_of image s mark table).count ≤ 256
unfolding refresh_of accepted refresh_count
few-counted image s mark table = by (decode image) refl
  where
    by : (r : Read Model) → decode image ≡ r → (refreshed_by s mark table (fitting table r)).count ≤ 256
    by (read_refused n at) d = omega arith
    by (read_got m end) d =
        let few : length (keep (tests_marked mark) m.rules) ≤ 256 = omega (arith, few-rules image m end d, kept-few (tests_marked mark) m.rules) in
        elim (eqb (length table) (9 * length m.rules)) as (λ t. (refreshed_by s mark table (if t then read_got m end else read_refused wrong_table 0)).count ≤ 256) [
          | true ↦ few-of (not (well_formed m s)) _ _ (omega arith) (few-of (leb (2 ^ m.buffers) mark) _ _ (omega arith) few)
          | false ↦ omega arith
        ]

pub refresh-reads : (image w : List ℕ) → fits w ≡ true → (mark : ℕ) (table : List ℕ)
    → let r = refresh_of image (state_of w) mark table in Reads (refresh_in image w mark table).answered r.number r.count r.position
refresh-reads image w f mark table =
    let r = refresh_of image (state_of w) mark table in
    rw (fit-refresh image w table mark f)
    (answer-reads r.number r.count r.position (omega (arith, refresh-small image table (state_of w) mark)) (omega (arith, few-counted image (state_of w) mark table)))

-- ---- the position of each call

-- an answer that is read as a number and a position tells what these tell
read-located : {image : List ℕ} {a n k p : ℕ} → Reads a n k p → Located image n p → Located image (number_in a) (position_in a)
read-located r l = rw (r.number_read, r.position_read) l

-- 5 and 6 have no place
unplaced : {image : List ℕ} (n : ℕ) → 3 < n → n < 11 → Located image n 0
unplaced n a b = nowhere (no_place n (inr (a, b)))

module _ (image : List ℕ) where
  pub length-tells : Located image (number_in (length_in image)) (position_in (length_in image))
  length-tells = by (decode image) refl
    where
      by : (r : Read Model) → decode image ≡ r → Located image (number_in (length_in image)) (position_in (length_in image))
      by (read_refused n at) d = read-located (length-refused image n at d).1 (position-told image n at d)
      by (read_got m end) d = read-located (length-accepted image m end d) (nowhere (no_place 0 (inl (omega arith))))

  pub open-tells : (table : List ℕ) → let a : ℕ = (open_in image table).answered in Located image (number_in a) (position_in a)
  open-tells table = read-located (open-reads image table) (open-position image table)

  -- words too large for their fields
  large-located : (table : List ℕ) → Located image (unfit_by (accepted image table)) (place_of (accepted image table))
  unfolding accepted
  large-located table = by (decode image) refl
    where
      by : (r : Read Model) → decode image ≡ r → Located image (unfit_by (fitting table r)) (place_of (fitting table r))
      by (read_refused n at) d = position-told image n at d
      by (read_got m end) d =
          elim (eqb (length table) (9 * length m.rules)) as
          (λ t. let r : Read Model = if t then read_got m end else read_refused wrong_table 0 in Located image (unfit_by r) (place_of r)) [
            | true ↦ unplaced 6 (omega arith) (omega arith)
            | false ↦ unplaced 5 (omega arith) (omega arith)
          ]

  bare-located : Located image (unfit_by (decode image)) (place_of (decode image))
  bare-located = by (decode image) refl
    where
      by : (r : Read Model) → decode image ≡ r → Located image (unfit_by r) (place_of r)
      by (read_refused n at) d = position-told image n at d
      by (read_got m end) d = unplaced 6 (omega arith) (omega arith)

  large-by : (w table : List ℕ) (steps : ℕ) (lent : Option (List ℕ)) → fits w ≡ false
      → let a : ℕ = (told_by image w table steps lent).answered in Located image (number_in a) (position_in a)
  large-by w table steps lent f = rw (unfit-run image w table steps lent f) (read-located (unfit-reads (accepted image table) (unfit-small image table)) (large-located table))

  pub run-tells : (w table : List ℕ) (steps : ℕ) → steps ≤ 65535 → let a : ℕ = (run_in image w table steps).answered in Located image (number_in a) (position_in a)
  run-tells w table steps few =
      by_fits w
      (λ f. read-located (run-reads image w f table steps few) (run-position image (state_of w) table steps))
      (λ f. rw (run-told image w table steps) (large-by w table steps none f))

  pub lent-tells : (w table : List ℕ) (steps lent : ℕ) (store : List ℕ) → steps ≤ 65535
      → let a : ℕ = (run_lent_in image w table steps lent store).answer.answered in Located image (number_in a) (position_in a)
  lent-tells w table steps lent store few =
      by_fits w
      (λ f. read-located (lent_reads image w f table steps lent store few) (run-lent-position image (state_of w) table steps lent store))
      (λ f. rw (lent-told image w table steps lent store) (large-by w table steps (lent_by lent store) f))

  pub refresh-tells : (w : List ℕ) (mark : ℕ) (table : List ℕ) → let a : ℕ = (refresh_in image w mark table).answered in Located image (number_in a) (position_in a)
  refresh-tells w mark table =
      by_fits w
      (λ f. read-located (refresh-reads image w f mark table) (refresh-position image (state_of w) mark table))
      (λ f. rw (unfit-refresh image w table mark f) (read-located (unfit-reads (accepted image table) (unfit-small image table)) (large-located table)))

  pub fresh-tells : (w : List ℕ) (steps : ℕ) → steps ≤ 65535 → let a : ℕ = (fresh_in image w steps).answered in Located image (number_in a) (position_in a)
  fresh-tells w steps few =
      by_fits w
      (λ f. read-located (fit-reads image w steps f few) (fresh-position image (state_of w) steps))
      (λ f. read-located (large-reads image w steps f) bare-located)

  pub fresh-lent-tells : (w : List ℕ) (steps lent : ℕ) (store : List ℕ) → steps ≤ 65535
      → let a : ℕ = (fresh_lent_in image w steps lent store).answer.answered in Located image (number_in a) (position_in a)
  fresh-lent-tells w steps lent store few =
      by_fits w
      (λ f. read-located (alone.lent_reads image w steps lent store f few) (fresh-lent-position image (state_of w) steps lent store))
      (λ f. read-located (lent-large image w steps lent store f) bare-located)
