-- Demand 1, the numbers: each is answered exactly when its row of document 01's table holds and no row before it, and then leaves what 01 says.
-- So what keeps all rows is never refused.
use Rattle.std.specs.Prelude.{◌≡◌, ◌↔◌, true, List, [], ◌++◌, ℕ, ◌*◌, ◌^◌, ◌≤◌, ◌<◌, length}
use Rattle.std.proofs.Math.Path.{ap}
use Rattle.std.proofs.Math.Option.{none}
use Rattle.meaning.specs.declared.State.{State}
use Rattle.meaning.specs.Numbers.{finer, not_there, bad_end}
use Rattle.meaning.specs.Model.{Model}
use Rattle.meaning.specs.State.{zero_state, well_formed}
use Rattle.meaning.specs.Read.{read_refused, read_got}
use Rattle.meaning.specs.Image.{model, decode}
use Rattle.meaning.specs.Match.{fresh_table}
use Rattle.meaning.specs.Refresh.{refresh, refresh_count}
use Rattle.meaning.specs.Store.{lent_by, store_fits, store_of, store_left}
use Rattle.meaning.specs.Run.{Going, going, Run}
use Rattle.meaning.specs.Calls.{accepted, place_of, needed_of, open_state, open_of, trace_lent, trace_of, Ran, ran_by, run_lent, run_of, refresh_of}
use Rattle.promises.specs.Sentences.{BrokenRule, Stops, Beforehand, Taken, Given, AfterOpen, AfterRefresh, AfterRun, RanTo}
use Rattle.promises.proofs.Proofs.Placed as placed
use Rattle.promises.proofs.Proofs.Numbers as numbers
use Rattle.promises.proofs.Proofs.Lending as lending

-- ---- an image alone

-- Reading stops by 2 at a field that is not wholly there, by 3, 11, 12 or 13 at one that is, by 12 where a rule's tests end, by 4 after the last field, if a pad bit
-- is 1 or a byte follows; and by no other number.
pub reading-stops : (image : List ℕ) (n at : ℕ) → model finer image 0 ≡ read_refused n at → Stops image at n
reading-stops image n at e = placed.model-stops image n at e

-- "the earlier in reading order": an image that is refused by 3, 11, 12 or 13 is refused so at the same place with any bytes put after it, as far as the length allows.
pub stays-broken : (image rest : List ℕ) → length (image ++ rest) ≤ 65536 → (n at : ℕ) → BrokenRule n → decode image ≡ read_refused n at → decode (image ++ rest) ≡ read_refused n at
stays-broken image rest h n at k e = placed.broken-longer image rest h n at k e

-- Every beginning of an accepted image, short of the whole, is refused by 2.
pub cut_short : (image rest : List ℕ) → 0 < length rest → (m : Model) (end : ℕ) → decode (image ++ rest) ≡ read_got m end → (at : ℕ) × (decode image ≡ read_refused not_there at)
cut_short image rest l m end e = placed.cut_short image rest l m end e

-- An accepted image with any bytes put after it, as far as the length allows, is refused by 4.
pub bytes-follow : (image rest : List ℕ) → 0 < length rest → length (image ++ rest) ≤ 65536 → (m : Model) (end : ℕ) → decode image ≡ read_got m end → decode (image ++ rest) ≡ read_refused bad_end 0
bytes-follow image rest l h m end e = placed.accepted-longer image rest l h m end e

-- The words that a table needs: nine for each rule of an accepted image, with number 0; and 0 for an image that is refused, with its number and position.
pub length-accepted : (image : List ℕ) (m : Model) (end : ℕ) → decode image ≡ read_got m end → needed_of image ≡ record { number = 0; position = 0; words = 9 * length m.rules }
length-accepted image m end e = numbers.length-accepted image m end e

pub length-refused : (image : List ℕ) (n at : ℕ) → decode image ≡ read_refused n at → needed_of image ≡ record { number = n; position = at; words = 0 }
length-refused image n at e = numbers.length-refused image n at e

-- An image that is accepted, with a table of that length, is taken.
pub accepted-taken : (image table : List ℕ) (m : Model) (end : ℕ) → decode image ≡ read_got m end → length table ≡ 9 * length m.rules → Taken image table m
accepted-taken image table m end e l = numbers.accepted-taken image table m end e l

-- ---- open

module _ (image table : List ℕ) where
  -- An image and a table that are taken are opened, however large they are: number 0, the opening state, and the fresh table.
  pub open-taken : (m : Model) → Taken image table m → open_of image table ≡ record { number = 0; position = 0; state = open_state m; table = fresh_table m.rules (open_state m) }
  open-taken m t = numbers.open-taken image table m t

  -- Open answers a number exactly when its row holds and none before it.
  pub open-exactly : (n : ℕ) → ((open_of image table).number ≡ n) ↔ Given image table AfterOpen n
  open-exactly n = numbers.open-number image table n

  -- Refused, it gives the all-zero state and leaves the table.
  pub open-refused : ((open_of image table).number ≡ 0 → ⊥) → ((open_of image table).state ≡ zero_state) × ((open_of image table).table ≡ table)
  open-refused h = numbers.open-refused image table h

-- ---- refresh

module _ (image table : List ℕ) (s : State) (mark : ℕ) where
  -- A well-formed state and a mark below 2 to the power of the buffer count are never refused: number 0, the count, and the table refreshed.
  pub refresh-taken : (m : Model) → Taken image table m → well_formed m s ≡ true → mark < 2 ^ m.buffers
      → refresh_of image s mark table ≡ record { number = 0; position = 0; count = refresh_count m.rules mark; table = refresh m.rules s mark table }
  refresh-taken m t w l = numbers.refresh-taken image table s mark m t w l

  -- Refresh answers a number exactly when its row holds and none before it.
  pub refresh-exactly : (n : ℕ) → ((refresh_of image s mark table).number ≡ n) ↔ Given image table (AfterRefresh s mark) n
  refresh-exactly n = numbers.refresh-number image table s mark n

  -- Refused, it counts nothing and leaves the table.
  pub refresh-refused : ((refresh_of image s mark table).number ≡ 0 → ⊥) → ((refresh_of image s mark table).count ≡ 0) × ((refresh_of image s mark table).table ≡ table)
  refresh-refused h = numbers.refresh-refused image table s mark h

-- ---- run, where a word says what is lent of the words beside it (request 2026-05)

module _ (image table : List ℕ) (s : State) (asked lent : ℕ) (words : List ℕ) where
  -- A well-formed state, with a store that fits if one is lent, is never refused: number 0, 7, 8, 9 or 14, and the state, table, count and store after the steps made,
  -- whatever the table holds.
  pub lent-taken : (m : Model) → Taken image table m → well_formed m s ≡ true → store_fits m.types (lent_by lent words) ≡ true
      → let r : Run Going = trace_lent image s table asked (lent_by lent words) in
      RanTo m (going s table (store_of (lent_by lent words))) asked r.events (run_lent image s table asked lent words).answer r.left.store
  unfolding run_lent
  lent-taken m t w f = numbers.run-taken image table s (lent_by lent words) asked m t w f

  -- It answers a number exactly when its row holds and none before it: "15 .. after 6", and then as many steps as there are, and 0 if they are those asked, 7, 8, 9 or
  -- 14 if not, "14 .. after 8".
  pub lent-exactly : (n : ℕ) → ((run_lent image s table asked lent words).answer.number ≡ n) ↔ Given image table (AfterRun s table (lent_by lent words) asked) n
  unfolding run_lent
  lent-exactly n = numbers.run-number image table s (lent_by lent words) asked n

  -- Refused by 1 to 6, 11 to 13 or 15, it gives the state back, counts nothing, leaves the table, and "the store unaltered",
  pub lent-refused : let a : Ran = (run_lent image s table asked lent words).answer in Beforehand a.number
      → run_lent image s table asked lent words ≡ record { answer = record { number = a.number; position = a.position; state = s; table = table; made = 0 }; store = words }
  unfolding run_lent store_left
  lent-refused b =
      ap (λ (r : Run Going). record { answer = ran_by (place_of (accepted image table)) r; store = store_left words r.left.store }) (numbers.left-refused image table s (lent_by lent words) asked b)

  -- and tells no event.
  pub lent-untold : Beforehand (run_lent image s table asked lent words).answer.number → (trace_lent image s table asked (lent_by lent words)).events ≡ []
  unfolding run_lent
  lent-untold b = ap (λ (r : Run Going). r.events) (numbers.left-refused image table s (lent_by lent words) asked b)

  -- No number is larger than 15.
  pub lent-small : (run_lent image s table asked lent words).answer.number < 16
  unfolding run_lent
  lent-small = numbers.lent-small image table s (lent_by lent words) asked

-- ---- run, with nothing lent

module _ (image table : List ℕ) (s : State) (asked : ℕ) where
  -- A well-formed state is never refused: number 0, 7, 8 or 9, and the state, table and count after the steps made, whatever the table holds.
  pub run-taken : (m : Model) → Taken image table m → well_formed m s ≡ true → RanTo m (going s table none) asked (trace_of image s table asked).events (run_of image s table asked) none
  run-taken m t w = lending.alone-taken image table s asked m t w

  -- Run answers a number exactly when its row holds and none before it: after 6, as many steps as there are, and 0 if they are those asked, 7, 8 or 9 if not.
  pub run-exactly : (n : ℕ) → ((run_of image s table asked).number ≡ n) ↔ Given image table (AfterRun s table none asked) n
  run-exactly n = lending.alone-number image table s asked n

  -- Refused by 1 to 6 or 11 to 13, it gives the state back, counts nothing and leaves the table,
  pub run-refused : Beforehand (run_of image s table asked).number
      → run_of image s table asked ≡ record { number = (run_of image s table asked).number; position = (run_of image s table asked).position; state = s; table = table; made = 0 }
  run-refused b = lending.alone-refused image table s asked b

  -- and tells no event.
  pub trace-refused : Beforehand (run_of image s table asked).number → (trace_of image s table asked).events ≡ []
  trace-refused b = lending.alone-untold image table s asked b

  -- No number is larger than 13: 14 and 15 come only where a store is lent.
  pub run_small : (run_of image s table asked).number < 14
  run_small = numbers.run_small image table s asked
