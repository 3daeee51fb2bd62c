-- A word that is too large for its field in C's state: the call is refused by 6, and all comes back as it was handed in.
use Rattle.std.specs.Prelude.{ℕ, zero, suc, ◌+◌, ◌<◌, ◌≡◌, refl, false, List, [], ◌∷◌, leb, get_or, drop}
use Rattle.std.proofs.Common.{ap, ◌∙◌, arith}
use Rattle.std.proofs.Math.Bool.{and-false}
use Rattle.std.proofs.lemmas.Bool.{lt-leb}
use Rattle.meaning.specs.Base.{every}
use Rattle.meaning.specs.Numbers.{ill_formed}
use Rattle.meaning.specs.Model.{Model}
use Rattle.meaning.specs.Read.{read_got}
use Rattle.meaning.specs.Calls.{accepted}
use Rattle.layout.specs.Rows.{rows_in}
use Rattle.layout.proofs.RowLaws.{rows_get}
use Rattle.jirvuntsag.specs.Words.{narrows, flag_at, flags_fit, fits}
use Rattle.jirvuntsag.specs.Told.{answer, told, run_in, refresh_in, events_in}

-- a type, a slot, a delay or a flag over 65,535; or a flag over 1
pub data TooLarge (w : List ℕ) : Type 0 where
  a_word : (k : ℕ) → 65535 < get_or (drop 1 w) k 0 → TooLarge w
  a-flag : (b : ℕ) → b < 8 → 1 < flag_at w b → TooLarge w

one-large : (most : ℕ) (ws : List ℕ) (k : ℕ) → most < get_or ws k 0 → every (λ v. leb v most) ws ≡ false
one-large most [] zero h = absurd (omega arith)
one-large most [] (suc k) h = absurd (omega arith)
one-large most (x ∷ xs) zero h = rw (lt-leb x most h)
one-large most (x ∷ xs) (suc k) h = rw (one-large most xs k h) (and-false (leb x most))

pub unfit : (w : List ℕ) → TooLarge w → fits w ≡ false
unfolding narrows flags_fit
unfit w (a_word k h) = rw (one-large 65535 (drop 1 w) k h) refl
unfit w (a-flag b low h) =
    let z : 0 + b ≡ b = omega arith in
    let at : get_or (rows_in (flag_at w) 0 8) b 0 ≡ flag_at w b = rows_get (flag_at w) 0 8 b 0 low ∙ ap (flag_at w) z in
    rw (one-large 1 (rows_in (flag_at w) 0 8) b (rw at h)) (and-false (narrows w))

-- Where image and table's length are accepted, such a word makes a run and a refresh answer 6, count 0 and position 0,
-- with the state's words and the table as they were handed in, and no event.
pub words_back : (image w table : List ℕ) (m : Model) (at : ℕ) → accepted image table ≡ read_got m at → TooLarge w → (steps mark : ℕ)
    → (run_in image w table steps ≡ told (answer ill_formed 0 0) w table) × (events_in image w table steps ≡ []) × (refresh_in image w mark table ≡ told (answer ill_formed 0 0) w table)
unfolding run_in events_in refresh_in
words_back image w table m at e h steps mark = (rw (unfit w h, e), rw (unfit w h), rw (unfit w h, e))
