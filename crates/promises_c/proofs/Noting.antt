-- The events that `trace` notes.
use Rattle.std.specs.Prelude.{◌≡◌, true, List, ℕ, ◌≤◌}
use Rattle.std.proofs.Math.Option.{none}
use Rattle.meaning.specs.Model.{Model}
use Rattle.meaning.specs.Read.{read_got}
use Rattle.meaning.specs.Image.{decode}
use Rattle.meaning.specs.Store.{lent_by, store_fits, store_of}
use Rattle.meaning.specs.Run.{Timed}
use Rattle.meaning.specs.Calls.{WithStore}
use Rattle.meaning.specs.Fresh.{moving}
use Rattle.step_note.specs.Events.{inscribed}
use Rattle.jirvuntsag.specs.Words.{state_of}
use Rattle.jirvuntsag.specs.Told.{Told, run_in, events_in}
use Rattle.jirvuntsag.specs.Lent.{run_lent_in, lent_events_in}
use Rattle.promises.specs.Words.{alone}
use Rattle.promises.specs.Published.{RanOn}
use Rattle.promises.specs.Sentences.{Beforehand}
use Rattle.promises_c.specs.Handing.{number_in, ran_in, Held, lay_events}
use Rattle.promises_c.proofs.Proofs.Noted as noted
use Rattle.promises_c.proofs.Proofs.Calling as calling
use Rattle.promises_c.proofs.Proofs.Lent as lending

-- What the contracts of `trace` say is left in the lent words is this: the events in order, three words each, as many as have room, and every other word as it was.
pub noted-in-order : (lent : List ℕ) (events : List Timed) → inscribed lent 0 events ≡ lay_events lent events
noted-in-order lent events = noted.noted-in-order lent events

-- Refused by 1 to 6 or 11 to 13, too large words among it, nothing is noted: every lent word stays as it was.
pub trace-leaves : (image w table lent : List ℕ) (steps : ℕ) → Beforehand (number_in (run_in image w table steps).answered) → lay_events lent (events_in image w table steps) ≡ lent
trace-leaves image w table lent steps b = calling.trace-leaves image w table lent steps b

-- The same where a store may be lent, refused by 15 too.
pub trace-lent-leaves : (image w table : List ℕ) (steps lent : ℕ) (store events : List ℕ) → Beforehand (number_in (run_lent_in image w table steps lent store).answer.answered)
    → lay_events events (lent_events_in image w table steps lent store) ≡ events
trace-lent-leaves image w table steps lent store events b = calling.lent-trace-leaves image w table steps lent store b events

-- Demand 2 for a caller in C who holds the fresh table, over the answer, the words and the table that it gets: the events are the labels of transitions from the
-- state in the words handed in to the state in the words given back, in order, as many as counted; the number says why there are no more; the table is fresh.
-- (Steps asked have 16 bits, and so has the count of those made.)
pub held-run : (image : List ℕ) (m : Model) (end : ℕ) → decode image ≡ read_got m end → (w table : List ℕ) → Held image w table
    → (steps : ℕ) → steps ≤ 65535 → RanOn m (alone (state_of w)) steps (events_in image w table steps) (ran_in (run_in image w table steps)) none
held-run image m end d w table h steps few = calling.held-run image m end d w table h steps few

-- The same with any store that fits: the transitions start with the store in the words lent and end with the store in the words given back (with none where bit 0 of the
-- word that says what is lent is clear), and each reads the image's facts and then those of the store.
pub held-lent-run : (image : List ℕ) (m : Model) (end : ℕ) → decode image ≡ read_got m end → (w table : List ℕ) → Held image w table
    → (steps lent : ℕ) (store : List ℕ) → steps ≤ 65535 → store_fits m.types (lent_by lent store) ≡ true
    → let a : WithStore Told = run_lent_in image w table steps lent store in
    RanOn m (moving (state_of w) (store_of (lent_by lent store))) steps (lent_events_in image w table steps lent store) (ran_in a.answer) (store_of (lent_by lent a.store))
held-lent-run image m end d w table h steps lent store few fit = lending.held-lent-run image m end d w table h steps lent store few fit
