-- Document 01's table "Given exactly when" as relations: a constructor for each row, with its sentence, and with what says that no row before it holds.
use Rattle.std.specs.Prelude.{◌≡◌, ◌⊎◌, true, false, List, [], ◌∷◌, ℕ, ◌+◌, ◌*◌, ◌^◌, ◌≤◌, ◌<◌, length}
use Rattle.std.proofs.Math.Option.{Option, none, some}
use Rattle.meaning.specs.declared.State.{State}
use Rattle.meaning.specs.Numbers.{finer, all_done, too_long, not_there, bad_number, bad_mask, bad_variable, bad_buffer, bad_end, wrong_table, ill_formed}
use Rattle.meaning.specs.Numbers.{not_fresh, clock_full, halted, bad_mark, store_full, bad_store}
use Rattle.meaning.specs.Model.{Model, Chunk}
use Rattle.meaning.specs.State.{buffer_of, well_formed}
use Rattle.meaning.specs.Read.{read_refused, read_got}
use Rattle.meaning.specs.Bits.{field_at}
use Rattle.meaning.specs.Image.{padding, model}
use Rattle.meaning.specs.Match.{entry_of}
use Rattle.meaning.specs.Choice.{Candidate, choose, utilities}
use Rattle.meaning.specs.Step.{Event, step_made, largest, step_of}
use Rattle.meaning.specs.Refresh.{refresh}
use Rattle.meaning.specs.Learning.{knowing, store_after, overfull, step_with}
use Rattle.meaning.specs.Run.{Timed, Going, going}
use Rattle.meaning.specs.Store.{store_fits, store_of}
use Rattle.meaning.specs.Calls.{Ran}
use Rattle.meaning.specs.Fresh.{Moving, moving}
use Rattle.promises.specs.Published.{LeastDelay, Transitions, Ended}

-- ---- why a field is refused, and where

-- the numbers of a broken rule, since request 2026-03 one for each thing that a rule is about
pub data BrokenRule : ℕ → Type 0 where
  -- "3 now means a version, count, type or action kind"; since request 2026-06 a query's kind too
  of-a-number : BrokenRule bad_number
  -- "11 a mask bit past the type's slots"
  of-a-mask : BrokenRule bad_mask
  -- "12 a variable not below the count or in no test"
  of-a-variable : BrokenRule bad_variable
  -- "13 a buffer that does not exist, does not rise, or is modified untested"
  of-a-buffer : BrokenRule bad_buffer

-- where the reading of an image can stop, and by which number: at a field of 1 to 16 bits that is reached and not wholly there; at one that is wholly there and
-- breaks its rule; where a rule's tests end, if a variable stood in none; after all fields, if a bit up to the byte's end is 1 or a byte follows, at no position
pub data Stops (image : List ℕ) : ℕ → ℕ → Type 0 where
  missing : {at : ℕ} (width : ℕ) → width ≤ 16 → at ≤ 8 * length image → 8 * length image < at + width → Stops image at not_there
  broken : {at n : ℕ} (width : ℕ) → 0 < width → width ≤ 16 → at + width ≤ 8 * length image → BrokenRule n → Stops image at n
  unbound : {at : ℕ} → at ≤ 8 * length image → Stops image at bad_variable
  unended : (end : ℕ) → end ≤ 8 * length image → (field_at image end (padding end) ≡ 0 → ⊥) ⊎ (end + padding end < 8 * length image) → Stops image 0 bad_end

-- "1 to 6 and 10", 11 to 13, which "return and leave what 3 does", and 15, which is "after 6 and like it": found before a step is made. 14 is "like 8", and where
-- nothing is lent no number is larger than 13
abbrev pub Beforehand : ℕ → Type 0
Beforehand n = (0 < n) × ((n < 7) ⊎ (9 < n)) × (n ≡ store_full → ⊥)

-- ---- "Order: 1; then 2 and 3, the earlier in reading order; 4; 5", where 3 is 3 and 11 to 13

-- why an image is refused: what all calls look at first
pub data Unread (image : List ℕ) : ℕ → Type 0 where
  -- "image over 65,536 bytes"
  over : 65536 < length image → Unread image too_long
  -- "a field is not wholly there"
  lacking : {at : ℕ} → length image ≤ 65536 → model finer image 0 ≡ read_refused not_there at → Unread image not_there
  -- "a field breaks its rule above"
  against : {at n : ℕ} → length image ≤ 65536 → model finer image 0 ≡ read_refused n at → BrokenRule n → Unread image n
  -- "a pad bit is 1, or a byte follows"
  trailing : {at : ℕ} → length image ≤ 65536 → model finer image 0 ≡ read_refused bad_end at → Unread image bad_end

-- an image that is not too long, whose fields are all there and keep their rules, which ends as it must, and a table of nine words a rule
pub record Taken (image table : List ℕ) (m : Model) : Type 0 where
  pub short : length image ≤ 65536
  pub end : ℕ
  pub reads : model finer image 0 ≡ read_got m end
  pub fits : length table ≡ 9 * length m.rules

-- what a call that takes a table answers; `after` is what it answers with a model and a table that were taken
pub data Given (image table : List ℕ) (after : Model → ℕ → Type 0) : ℕ → Type 0 where
  -- 1 to 4, and 11 to 13
  unread : {n : ℕ} → Unread image n → Given image table after n
  -- "table length is not 9 × rules"
  unfit : {m : Model} {end : ℕ} → length image ≤ 65536 → model finer image 0 ≡ read_got m end → (length table ≡ 9 * length m.rules → ⊥) → Given image table after wrong_table
  -- none of these
  taken : {m : Model} {n : ℕ} → Taken image table m → after m n → Given image table after n

-- what a call that takes no table answers: 1 to 4 and 11 to 13, or what it answers with the model
pub data GivenBare (image : List ℕ) (after : Model → ℕ → Type 0) : ℕ → Type 0 where
  refused : {n : ℕ} → Unread image n → GivenBare image after n
  read : {m : Model} {end n : ℕ} → length image ≤ 65536 → model finer image 0 ≡ read_got m end → after m n → GivenBare image after n

-- ---- what follows, call by call

-- open: "all that was asked is done"
abbrev pub AfterOpen : Model → ℕ → Type 0
AfterOpen m n = n ≡ all_done

-- refresh: "6; 10"
pub data AfterRefresh (s : State) (mark : ℕ) (m : Model) : ℕ → Type 0 where
  -- "state not well formed"
  ill : well_formed m s ≡ false → AfterRefresh s mark m ill_formed
  -- "mark is 2 to the power of the buffer count, or more"
  high : well_formed m s ≡ true → 2 ^ m.buffers ≤ mark → AfterRefresh s mark m bad_mark
  -- "all that was asked is done"
  renewed : well_formed m s ≡ true → mark < 2 ^ m.buffers → AfterRefresh s mark m all_done

-- why the next step is not made, with the table as it is: "In a step 7 comes before 8."
pub data Why (m : Model) (s : State) (table : List ℕ) : ℕ → Type 0 where
  -- "chosen entry is not the fresh one"
  stale : {c : Candidate} → choose m.rules (utilities m.rules) table ≡ some c → (c.entry ≡ entry_of c.rule s → ⊥) → Why m s table not_fresh
  -- "clock would pass 4,294,967,295", by a firing or by a wait
  late-fire : {c : Candidate} → choose m.rules (utilities m.rules) table ≡ some c → c.entry ≡ entry_of c.rule s → largest < s.clock + 50 → Why m s table clock_full
  late-wait : {ms : ℕ} → choose m.rules (utilities m.rules) table ≡ none → LeastDelay s ms → largest < s.clock + ms → Why m s table clock_full
  -- "halted": "No entry matches and nothing is pending."
  quiet : choose m.rules (utilities m.rules) table ≡ none → ((b : ℕ) → b < length s.buffers → (buffer_of s b).delay ≡ 0) → Why m s table halted

-- steps made one after the other, from state and table and the store if one is lent, with what each did and the clock after it: "After each step the table is
-- refreshed with that mark", and what the step cleared joins the store
pub data Steps (m : Model) : List Timed → Going → Going → Type 0 where
  none_made : {g : Going} → Steps m [] g g
  then-made : {e : Event} {es : List Timed} {g g'' : Going} {s' : State} {mark : ℕ} → step_with m g.store g.state g.table ≡ step_made e s' mark
      → Steps m es (going s' (refresh m.rules s' mark g.table) (store_after m g.state e g.store)) g'' → Steps m (record { clock = s'.clock; event = e } ∷ es) g g''

-- why a run of so many steps asked ends after so many made, by what it leaves; the next step reads the memory with what the store knows
pub data EndsBy (m : Model) (asked made : ℕ) (g : Going) : ℕ → Type 0 where
  -- "all that was asked is done"
  enough : made ≡ asked → EndsBy m asked made g all_done
  -- 7, 8 or 9
  before-that : {n : ℕ} → made < asked → Why (knowing m g.store) g.state g.table n → EndsBy m asked made g n
  -- "14, a step whose new facts would make more than 256, after 8": never where nothing is lent
  no_room : {e : Event} {s' : State} {mark : ℕ} → made < asked → step_of (knowing m g.store) g.state g.table ≡ step_made e s' mark
      → overfull (store_after m g.state e g.store) ≡ true → EndsBy m asked made g store_full

-- run: "6", then "15 .. after 6" if words are lent, and then its steps
pub data AfterRun (s : State) (table : List ℕ) (lent : Option (List ℕ)) (asked : ℕ) (m : Model) : ℕ → Type 0 where
  -- "state not well formed"
  unwell : well_formed m s ≡ false → AfterRun s table lent asked m ill_formed
  -- "not 256 places, a count over 256 or a fact that the image could not hold": never where nothing is lent
  misfit : well_formed m s ≡ true → store_fits m.types lent ≡ false → AfterRun s table lent asked m bad_store
  went : {es : List Timed} {g : Going} {n : ℕ} → well_formed m s ≡ true → store_fits m.types lent ≡ true → Steps m es (going s table (store_of lent)) g
      → EndsBy m asked (length es) g n → AfterRun s table lent asked m n

-- what a run gives back and leaves: "the state, table and count after the steps already made", and the store if one is lent
pub record RanTo (m : Model) (g : Going) (asked : ℕ) (events : List Timed) (a : Ran) (store : Option (List Chunk)) : Type 0 where
  pub steps : Steps m events g (going a.state a.table store)
  pub counted : a.made ≡ length events
  pub unplaced : a.position ≡ 0
  pub ended : EndsBy m asked a.made (going a.state a.table store) a.number

-- the run without a table: "6", "15" if words are lent, and then its steps, which are transitions of the published semantics, and why there are no more: 0, 8 or 9,
-- and 14 with a store
pub data AfterFresh (s : State) (lent : Option (List ℕ)) (asked : ℕ) (m : Model) : ℕ → Type 0 where
  -- "state not well formed"
  unsound : well_formed m s ≡ false → AfterFresh s lent asked m ill_formed
  -- "not 256 places, a count over 256 or a fact that the image could not hold"
  unfitting : well_formed m s ≡ true → store_fits m.types lent ≡ false → AfterFresh s lent asked m bad_store
  moved : {es : List Timed} {g : Moving} {n : ℕ} → well_formed m s ≡ true → store_fits m.types lent ≡ true → Transitions m es (moving s (store_of lent)) g
      → Ended m asked (length es) g n → AfterFresh s lent asked m n
