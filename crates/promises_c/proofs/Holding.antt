-- For C, and so for Rust and Python, who hold a state as 89 words: words and state stand for each other, a refused call leaves the words, and a caller who hands on
-- the words and the table left before it always holds the fresh table.
use Rattle.std.specs.Prelude.{◌≡◌, true, false, List, ℕ, ◌≤◌, length, get_or, replicate}
use Rattle.meaning.specs.declared.State.{State}
use Rattle.meaning.specs.Numbers.{ill_formed}
use Rattle.meaning.specs.Model.{Model}
use Rattle.meaning.specs.State.{well_formed}
use Rattle.meaning.specs.Read.{read_got}
use Rattle.meaning.specs.Image.{decode}
use Rattle.meaning.specs.Match.{fresh_table}
use Rattle.meaning.specs.Step.{largest}
use Rattle.meaning.specs.Calls.{WithStore}
use Rattle.jirvuntsag.specs.Words.{state_of, words_of, flags_fit, fits}
use Rattle.jirvuntsag.specs.Told.{answer, Told, told, open_in, run_in, refresh_in}
use Rattle.jirvuntsag.specs.Lent.{told_with, run_lent_in}
use Rattle.promises.specs.Words.{Machine, Reached}
use Rattle.promises.specs.Sentences.{Beforehand, Taken}
use Rattle.promises.proofs.Keeping.{reached-fresh, reached-well}
use Rattle.promises_c.specs.Handing.{number_in, Leaves, Held}
use Rattle.promises_c.proofs.Proofs.Back as back
use Rattle.promises_c.proofs.Proofs.Calling as calling
use Rattle.promises_c.proofs.Proofs.Lent as lending

-- ---- words and state

-- The words of a state of the machine are 89, each fits its field, and they hold that state.
pub words-of-state : (s : State) → Machine s → (length (words_of s) ≡ 89) × (fits (words_of s) ≡ true) × (state_of (words_of s) ≡ s)
words-of-state s m = (back.all_words s m, back.words-fit s m, back.state-back s m)

-- 89 words whose flags are 0 or 1 are the words of the state that they hold, and if each word fits its field that is a state of the machine.
pub state-of-words : (w : List ℕ) → length w ≡ 89 → flags_fit w ≡ true → words_of (state_of w) ≡ w
state-of-words w l f = back.words_back w l f

pub fitting-state : (w : List ℕ) → fits w ≡ true → get_or w 0 0 ≤ largest → Machine (state_of w)
fitting-state w f c = back.state-fits w f c

-- ---- a refused call leaves the words

-- Open: 89 zeros and the table as it was.
pub open-leaves : (image table : List ℕ) → (number_in (open_in image table).answered ≡ 0 → ⊥) → Leaves (replicate 89 0) table (open_in image table)
open-leaves image table h = calling.open-leaves image table h

-- Run, refused by 1 to 6 or 11 to 13, too large words among it: the words and the table as they were.
pub run-leaves : (image w table : List ℕ) (steps : ℕ) → length w ≡ 89 → let a : Told = run_in image w table steps in Beforehand (number_in a.answered) → Leaves w table a
run-leaves image w table steps l b = calling.run-leaves image w table steps l b

-- The same of a run to which a store may be lent, refused by 15 too; and every word of the store as it was.
pub run-lent-leaves : (image w table : List ℕ) (steps lent : ℕ) (store : List ℕ) → length w ≡ 89 → let a : WithStore Told = run_lent_in image w table steps lent store in
    Beforehand (number_in a.answer.answered) → Leaves w table a.answer × (a.store ≡ store)
run-lent-leaves image w table steps lent store l b = (calling.lent-leaves image w table steps lent store b l, calling.store-leaves image w table steps lent store b)

-- Refresh never writes the words; refused, it leaves the table as it was.
pub refresh-leaves : (image w table : List ℕ) (mark : ℕ) → let a : Told = refresh_in image w mark table in (number_in a.answered ≡ 0 → ⊥) → Leaves w table a
refresh-leaves image w table mark h = calling.refresh-leaves image w table mark h

-- A word too large for its field is 6, with no position, once the image and the table are taken, and all is left as it was.
pub run-too-large : (image w table : List ℕ) (steps : ℕ) (m : Model) → Taken image table m → fits w ≡ false → run_in image w table steps ≡ told (answer ill_formed 0 0) w table
run-too-large image w table steps m t f = calling.run-six image w table steps m t f

pub run-lent-too-large : (image w table : List ℕ) (steps lent : ℕ) (store : List ℕ) (m : Model) → Taken image table m → fits w ≡ false
    → run_lent_in image w table steps lent store ≡ told_with (told (answer ill_formed 0 0) w table) store
run-lent-too-large image w table steps lent store m t f = calling.lent-six image w table steps lent store m t f

pub refresh-too-large : (image w table : List ℕ) (mark : ℕ) (m : Model) → Taken image table m → fits w ≡ false → refresh_in image w mark table ≡ told (answer ill_formed 0 0) w table
refresh-too-large image w table mark m t f = calling.refresh-six image w table mark m t f

-- ---- demand 3 over words

-- After an accepted opening, and any kept runs, each with any store beside it, lent or not, refreshes, and changes of the words that are refreshed with their mark, each
-- handed the words and the table left before it: the words are 89, each fits, the state that they hold is well formed, and the table is its fresh one.
pub held-fresh : (image : List ℕ) (m : Model) (end : ℕ) → decode image ≡ read_got m end → {w table : List ℕ} → Held image w table
    → (length w ≡ 89) × (fits w ≡ true) × (well_formed m (state_of w) ≡ true) × (table ≡ fresh_table m.rules (state_of w))
held-fresh image m end d h =
    let s = calling.held-stands image m end d h in
    (s.many, s.fit, reached-well image m end d s.reached, reached-fresh image m end d s.reached)

-- So what is said of chains of calls over states is said of it too.
pub held-reached : (image : List ℕ) (m : Model) (end : ℕ) → decode image ≡ read_got m end → {w table : List ℕ} → Held image w table → Reached image (state_of w) table
held-reached image m end d h = (calling.held-stands image m end d h).reached

-- A run with nothing lent is a link of that chain.
pub held-ran : (image : List ℕ) {w table : List ℕ} → Held image w table → (steps : ℕ) → Held image (run_in image w table steps).words (run_in image w table steps).table
held-ran image h steps = lending.held-ran image h steps
