-- Request 2026-05 for C: what is not lent is neither read nor written, and what is lent only grows.
use Rattle.std.specs.Prelude.{◌≡◌, true, false, List, ℕ, ◌≤◌, get_or}
use Rattle.std.proofs.Math.Option.{some}
use Rattle.meaning.specs.Base.{bit}
use Rattle.meaning.specs.Model.{Model}
use Rattle.meaning.specs.State.{well_formed}
use Rattle.meaning.specs.Read.{read_got}
use Rattle.meaning.specs.Image.{decode}
use Rattle.meaning.specs.Step.{largest}
use Rattle.meaning.specs.Store.{store_fits}
use Rattle.jirvuntsag.specs.Words.{state_of, fits}
use Rattle.jirvuntsag.specs.Told.{run_in, events_in}
use Rattle.jirvuntsag.specs.Fresh.{fresh_in, fresh_events_in}
use Rattle.jirvuntsag.specs.Lent.{told_with, run_lent_in, lent_events_in, fresh_lent_in, fresh_lent_events_in}
use Rattle.promises.specs.Words.{OnlyGrows, Grows}
use Rattle.promises.specs.Sentences.{Taken}
use Rattle.promises_c.proofs.Proofs.Lent as proofs

-- any image, words of a state, steps, word that says what is lent, and words of a store, whatever their length
module _ (image w : List ℕ) (steps lent : ℕ) (store : List ℕ) where
  -- ---- "What is not lent is neither read nor written, whatever its length."

  -- With bit 0 of that word clear, the answer, the words of the state, the table and the events are those of the calls that take no store, whatever words stand beside, and
  -- these stay as they were, every one.
  module _ (unlent : bit lent 0 ≡ false) where
    pub not-lent : (table : List ℕ)
        → (run_lent_in image w table steps lent store ≡ told_with (run_in image w table steps) store) × (lent_events_in image w table steps lent store ≡ events_in image w table steps)
    not-lent table = (proofs.not-lent image w steps lent store unlent table, proofs.not_noted image w steps lent store unlent table)

    pub fresh-not-lent : (fresh_lent_in image w steps lent store ≡ told_with (fresh_in image w steps) store) × (fresh_lent_events_in image w steps lent store ≡ fresh_events_in image w steps)
    fresh-not-lent = (proofs.fresh-not-lent image w steps lent store unlent, proofs.fresh-not-noted image w steps lent store unlent)

  -- ---- the words of the store (a clock has 32 bits)

  module _ (clock : get_or w 0 0 ≤ largest) where
    -- Whatever the call answers: they are as many as before, the count is not smaller, and each word of a place below the old count, and each past the new count, is the same.
    pub store-only-grows : (table : List ℕ) → OnlyGrows store (run_lent_in image w table steps lent store).store
    store-only-grows table = proofs.only-grows image w steps lent store clock table

    pub fresh-store-only-grows : OnlyGrows store (fresh_lent_in image w steps lent store).store
    fresh-store-only-grows = proofs.fresh-only-grows image w steps lent store clock

    -- Where the call is not refused: the facts below the old count stay, in their order, new ones join after them, none that the image or the store has and no two equal, never
    -- more than 256, and what is left is a store that the next call takes.
    module _ (fit : fits w ≡ true) (given : bit lent 0 ≡ true) (m : Model) (well : well_formed m (state_of w) ≡ true) (taken : store_fits m.types (some store) ≡ true) where
      pub store-learns : (table : List ℕ) → Taken image table m → Grows m store (run_lent_in image w table steps lent store).store
      store-learns table t = proofs.learns image w steps lent store clock fit given m well taken table t

      pub fresh-store-learns : (end : ℕ) → decode image ≡ read_got m end → Grows m store (fresh_lent_in image w steps lent store).store
      fresh-store-learns end accepted = proofs.fresh-learns image w steps lent store clock fit given m well taken end accepted
