-- An event that is noted, or for which there is no room.
use Prim.Native.Nat.{ℕ, zero, suc, ◌+◌, ◌-◌, ◌*◌, ◌≤◌, ◌<◌}
use mathlib.Core.Path.{◌≡◌, refl, ap, ◌∙◌}
use mathlib.Core.List.{List, [], ◌∷◌}
use native.Mathlib.Omega.{arith}
use borrow.Author.Tests.{lt-leb, le-leb}
use lib.ListN.{length}
use lib.Seq.{sets}
use borrow.Rule.Slice.PartMut.{put_mid}
use Rattle.layout.proofs.WordLaws.{lent-sets}
use Rattle.step_note.specs.Events.{event_words, event_by, noted}

pub noted-none : (lent : List ℕ) (k : ℕ) (event : List ℕ) → length lent < 3 * k + 3 → lent ≡ noted lent k event
unfolding noted
noted-none lent k event h = rw (lt-leb (3 * k + 3) (length lent) h)

-- words that came to three lent ones are noted
pub noted-lent : (lent : List ℕ) (k : ℕ) (own event : List ℕ) → 3 * k + 3 ≤ length lent → own ≡ event → length event ≡ 3
    → put_mid (3 * k) (3 * k + 3 - 3 * k) lent own ≡ noted lent k event
unfolding noted
noted-lent lent k own event h e many =
    rw (le-leb (3 * k + 3) (length lent) h) (lent-sets (3 * k) 3 lent own h (ap length e ∙ many) ∙ ap (sets lent (3 * k)) e)

-- kind and value are the words of the event that they tell
pub worded : (clock kind value : ℕ) → kind ≤ 1 → clock ∷ kind ∷ value ∷ [] ≡ event_words clock (event_by kind value)
worded clock zero value h = refl
worded clock (suc zero) value h = refl
worded clock (suc (suc k)) value h = absurd (omega arith)
