-- Request 2026-03, "say where an image is bad": everything refused stays refused and nothing new is; every call tells the position; and the position is that of the first
-- field that is refused.
use Rattle.std.specs.Prelude.{◌≡◌, ◌⊎◌, List, ℕ, ◌*◌, ◌≤◌, ◌<◌, length}
use Rattle.std.proofs.Math.Option.{none}
use Rattle.meaning.specs.declared.State.{State}
use Rattle.meaning.specs.Numbers.{coarse, finer, not_there, bad_variable}
use Rattle.meaning.specs.Read.{read_refused}
use Rattle.meaning.specs.Image.{decode_by, decode}
use Rattle.meaning.specs.Store.{lent_by}
use Rattle.meaning.specs.Calls.{needed_of, open_of, Ran, run_lent, run_of, refresh_of}
use Rattle.meaning.specs.Fresh.{FreshRan, fresh_lent, fresh_of}
use Rattle.promises.specs.Places.{HasPlace, Located, SameVerdict, WhateverFollows, FieldAtBit, TestsEndAt}
use Rattle.promises.proofs.Proofs.Placed as placed
use Rattle.promises.proofs.Proofs.Verdicts as verdicts
use Rattle.promises.proofs.Proofs.Locations as locations

-- ---- "Everything refused stays refused and nothing new is."

-- For every image, by 01's numbers and by the finer ones: both accept the same model, or both refuse at the same position, and the finer number stands for 01's.
pub refused-as-before : (image : List ℕ) → SameVerdict (decode_by finer image) (decode_by coarse image)
refused-as-before image = verdicts.same-verdict image

-- ---- the position, for every image that is refused

module _ (image : List ℕ) (n at : ℕ) (refused : decode image ≡ read_refused n at) where
  -- It lies within the image or at its end, and so is at most 524,288.
  pub position-most : (at ≤ 8 * length image) × (at ≤ 524288)
  position-most = locations.most image n at refused

  -- "the position of the offending field's first bit for 2, 3 and these, else 0"
  pub position-told : Located image n at
  position-told = placed.refused-located image n at refused

  module _ (place : HasPlace n) where
    -- It is the first bit of the field that the definition reads there, after all before it was read, and that is refused; or the bit where the tests of a rule end of
    -- which a variable stands in none of them.
    pub position_first : FieldAtBit image n at ⊎ ((n ≡ bad_variable) × TestsEndAt image at)
    position_first = placed.position_first image n at refused place

    -- It is a bit of the image: but for 2, which may be told at its end, and for 12 where the tests of a rule end with it.
    pub position-inside : (n ≡ not_there) ⊎ ((at < 8 * length image) ⊎ ((n ≡ bad_variable) × TestsEndAt image at))
    position-inside = placed.position-inside image n at refused place

    -- Every field before it is in order, whatever follows: no image that begins so is told a position before it.
    pub fields-before : WhateverFollows image at λ image'. (k x : ℕ) → decode image' ≡ read_refused k x → HasPlace k → at ≤ x
    fields-before = placed.in_order image n at refused place

-- ---- "from every call the position"

module _ (image : List ℕ) where
  pub length-position : Located image (needed_of image).number (needed_of image).position
  length-position = locations.length-located image

  pub open-position : (table : List ℕ) → Located image (open_of image table).number (open_of image table).position
  open-position table = locations.open-located image table

  pub run-position : (s : State) (table : List ℕ) (asked : ℕ) → Located image (run_of image s table asked).number (run_of image s table asked).position
  unfolding run_of
  run-position s table asked = locations.run-located image table s none asked

  -- with any words beside it, lent or not
  pub run-lent-position : (s : State) (table : List ℕ) (asked lent : ℕ) (words : List ℕ)
      → let a : Ran = (run_lent image s table asked lent words).answer in Located image a.number a.position
  unfolding run_lent
  run-lent-position s table asked lent words = locations.run-located image table s (lent_by lent words) asked

  pub refresh-position : (s : State) (mark : ℕ) (table : List ℕ) → Located image (refresh_of image s mark table).number (refresh_of image s mark table).position
  refresh-position s mark table = locations.refresh-located image table s mark

  pub fresh-position : (s : State) (asked : ℕ) → Located image (fresh_of image s asked).number (fresh_of image s asked).position
  unfolding fresh_of
  fresh-position s asked = locations.fresh-located image s none asked

  pub fresh-lent-position : (s : State) (asked lent : ℕ) (words : List ℕ) → let a : FreshRan = (fresh_lent image s asked lent words).answer in Located image a.number a.position
  unfolding fresh_lent
  fresh-lent-position s asked lent words = locations.fresh-located image s (lent_by lent words) asked
