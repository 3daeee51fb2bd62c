-- The position that each call answers: that of the refused image, else 0.
use Rattle.std.specs.Prelude.{◌≡◌, ◌⊎◌, List, ℕ, ◌*◌, ◌≤◌, ◌<◌, length}
use Rattle.std.proofs.Math.Path.{refl}
use Rattle.std.proofs.Common.{inl, inr, arith}
use Rattle.std.proofs.Math.Option.{Option}
use Rattle.meaning.specs.declared.State.{State}
use Rattle.meaning.specs.Numbers.{finer, wrong_table}
use Rattle.meaning.specs.Model.{Model}
use Rattle.meaning.specs.Read.{Read, read_refused, read_got}
use Rattle.meaning.specs.Image.{decode}
use Rattle.meaning.specs.Calls.{accepted, place_of, needed_by, needed_of, open_of, refresh_of}
use Rattle.laws.specs.CallsLaws.{open-placed, refresh-placed}
use Rattle.laws.specs.PlaceLaws.{decode-within}
use Rattle.promises.specs.Words.{ran_lent, fresh_ran_lent}
use Rattle.promises.specs.Sentences.{Given, unread, unfit, taken, GivenBare, refused, read}
use Rattle.promises.specs.Sentences.{AfterOpen, AfterRefresh, ill, high, renewed, AfterRun, unwell, misfit, went, AfterFresh, unsound, unfitting, moved}
use Rattle.promises.specs.Sentences.{enough, before-that, no_room, stale, late-fire, late-wait, quiet}
use Rattle.promises.specs.Places.{HasPlace, Located, nowhere}
use Rattle.promises.proofs.Proofs.Reading.{no_place, no-place-late}
use Rattle.promises.proofs.Proofs.Placed.{decode-short, refused-located}
use Rattle.promises.proofs.Proofs.Numbers.{unread-refused, refused-accepted, unfit-accepted, taken-accepted, open-number, run-number, refresh-number}
use Rattle.promises.proofs.Proofs.Afresh.{ended-number, number-exactly}

-- ---- an image
-- where it is refused,
-- within it or at its end
pub most : (image : List ℕ) (n at : ℕ) → decode image ≡ read_refused n at → (at ≤ 8 * length image) × (at ≤ 524288)
most image n at d = decode-within finer image n at d

-- ---- a call with a table: what it answers after the image and the table are taken has no place

module _ (image table : List ℕ) (after : Model → ℕ → Type 0) (unplaced : (m : Model) (n : ℕ) → after m n → HasPlace n → ⊥) where
  given-located : (n : ℕ) → Given image table after n → Located image n (place_of (accepted image table))
  given-located n (unread u) =
      let d = unread-refused image u in
      rw (refused-accepted image table n d.0 d.1) (refused-located image n d.0 d.1)
  given-located n (unfit {m} {end} h e l) = rw (unfit-accepted image table m end h e l) (nowhere (no_place wrong_table (inr (omega arith, omega arith))))
  given-located n (taken {m} t a) = rw (taken-accepted image table t) (nowhere (unplaced m n a))

-- 0, or 4 to 10
abbrev Elsewhere : ℕ → Type 0
Elsewhere n = (n < 2) ⊎ ((3 < n) × (n < 11))

module _ (image table : List ℕ) where
  pub open-located : Located image (open_of image table).number (open_of image table).position
  open-located =
      rw (open-placed image table)
      (given-located image table AfterOpen (λ m n e. no_place n (inl (omega arith))) (open_of image table).number ((open-number image table (open_of image table).number).0 refl))

  pub refresh-located : (s : State) (mark : ℕ) → Located image (refresh_of image s mark table).number (refresh_of image s mark table).position
  refresh-located s mark =
      let n : ℕ = (refresh_of image s mark table).number in
      rw (refresh-placed image s mark table)
      (given-located image table (AfterRefresh s mark) (λ m k a. no_place k (by m k a)) n ((refresh-number image table s mark n).0 refl))
    where
      by : (m : Model) (n : ℕ) → AfterRefresh s mark m n → Elsewhere n
      by m n (ill w) = inr (omega arith, omega arith)
      by m n (high w l) = inr (omega arith, omega arith)
      by m n (renewed w l) = inl (omega arith)

  pub run-located : (s : State) (lent : Option (List ℕ)) (asked : ℕ) → Located image (ran_lent image s table asked lent).number (ran_lent image s table asked lent).position
  run-located s lent asked =
      let n : ℕ = (ran_lent image s table asked lent).number in
      given-located image table (AfterRun s table lent asked) by n ((run-number image table s lent asked n).0 refl)
    where
      by : (m : Model) (n : ℕ) → AfterRun s table lent asked m n → HasPlace n → ⊥
      by m n (unwell w) = no_place n (inr (omega arith, omega arith))
      by m n (misfit w f) = no-place-late n (omega arith)
      by m n (went w f p (enough e)) = no_place n (inl (omega arith))
      by m n (went w f p (before-that l (stale o d))) = no_place n (inr (omega arith, omega arith))
      by m n (went w f p (before-that l (late-fire o d e))) = no_place n (inr (omega arith, omega arith))
      by m n (went w f p (before-that l (late-wait o d e))) = no_place n (inr (omega arith, omega arith))
      by m n (went w f p (before-that l (quiet o d))) = no_place n (inr (omega arith, omega arith))
      by m n (went w f p (no_room l q o)) = no-place-late n (omega arith)

-- ---- a call without a table
-- the table's length

module _ (image : List ℕ) where
  pub length-located : Located image (needed_of image).number (needed_of image).position
  unfolding needed_of
  length-located = by (decode image) refl
    where
      by : (r : Read Model) → decode image ≡ r → Located image (needed_by r).number (needed_by r).position
      by (read_refused n at) d = refused-located image n at d
      by (read_got m end) d = nowhere (no_place 0 (inl (omega arith)))

  module _ (s : State) (lent : Option (List ℕ)) (asked : ℕ) where
    bare-elsewhere : (m : Model) (n : ℕ) → AfterFresh s lent asked m n → HasPlace n → ⊥
    bare-elsewhere m n (unsound w) = no_place n (inr (omega arith, omega arith))
    bare-elsewhere m n (unfitting w f) = no-place-late n (omega arith)
    bare-elsewhere m n (moved w f p e) = by (ended-number e)
      where
        by : (n ≡ 0) ⊎ ((n ≡ 8) ⊎ ((n ≡ 9) ⊎ (n ≡ 14))) → HasPlace n → ⊥
        by (inl q) = no_place n (inl (omega arith))
        by (inr (inl q)) = no_place n (inr (omega arith, omega arith))
        by (inr (inr (inl q))) = no_place n (inr (omega arith, omega arith))
        by (inr (inr (inr q))) = no-place-late n (omega arith)

    bare-located : (n : ℕ) → GivenBare image (AfterFresh s lent asked) n → Located image n (place_of (decode image))
    bare-located n (refused u) = let d = unread-refused image u in rw d.1 (refused-located image n d.0 d.1)
    bare-located n (read {m} {end} h e a) = rw (decode-short image h, e) (nowhere (bare-elsewhere m n a))

    pub fresh-located : Located image (fresh_ran_lent image s asked lent).number (fresh_ran_lent image s asked lent).position
    fresh-located = bare-located (fresh_ran_lent image s asked lent).number ((number-exactly image s lent asked (fresh_ran_lent image s asked lent).number).0 refl)
