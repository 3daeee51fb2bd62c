-- The three demands, a statement for each, over what the calls answer; one for the run without a table, one for where an image is bad, one for what is remembered, and one
-- for what a query can tell. All are of images of both versions.
-- Beside the definitions of `meaning` they use the table of numbers (Sentences), the published semantics (Published), what a refresh, a chain of calls, runs that are
-- alike and a store that grows are (Words), and what a position is (Places).
use Rattle.std.specs.Prelude.{◌≡◌, refl, ◌↔◌, ◌⊎◌, true, false, List, [], ℕ, ◌*◌, ◌^◌, ◌≤◌, ◌<◌, ℤ, length}
use Rattle.std.proofs.Common.{◌∙◌}
use Rattle.std.proofs.Math.Option.{none, some}
use Rattle.meaning.specs.declared.State.{State}
use Rattle.meaning.specs.Base.{bit}
use Rattle.meaning.specs.Numbers.{coarse, finer, not_there, bad_variable}
use Rattle.meaning.specs.Model.{Model, Rule, Ask, Fact}
use Rattle.meaning.specs.State.{zero_state, buffer_of, well_formed}
use Rattle.meaning.specs.Read.{read_refused, read_got}
use Rattle.meaning.specs.Image.{decode_by, decode}
use Rattle.meaning.specs.Match.{answers, fresh_table}
use Rattle.meaning.specs.Refresh.{refresh, refresh_count}
use Rattle.meaning.specs.Step.{Event, step_made, step}
use Rattle.meaning.specs.Store.{lent_by, store_fits, store_of}
use Rattle.meaning.specs.Run.{Going, going, Run}
use Rattle.meaning.specs.Calls.{needed_of, open_state, open_of, WithStore, Ran, trace_lent, trace_of, run_lent, run_of, Refreshed, refresh_of}
use Rattle.meaning.specs.Fresh.{Moving, moving, fresh_trace_lent, fresh_trace_of, FreshRan, fresh_lent, fresh_of}
use Rattle.laws.specs.MatchLaws.{fresh-length}
use Rattle.promises.specs.Words.{RefreshedTo, Machine, Reached, alone, AsKept, answer_of, OnlyGrows, Grows}
use Rattle.promises.specs.Sentences.{Beforehand, Taken, Given, AfterOpen, AfterRun, AfterRefresh, RanTo, GivenBare, AfterFresh}
use Rattle.promises.specs.Places.{HasPlace, Located, SameVerdict, WhateverFollows, FieldAtBit, TestsEndAt}
use Rattle.promises.specs.Published.{Flagged, Follows}
use Rattle.promises.proofs.Numbers as numbers
use Rattle.promises.proofs.Semantics as semantics
use Rattle.promises.proofs.Refreshing as refreshing
use Rattle.promises.proofs.Keeping as keeping
use Rattle.promises.proofs.Fresh as fresh
use Rattle.promises.proofs.Placing as placing
use Rattle.promises.proofs.Remembering as remembering
use Rattle.promises.proofs.Asking as asking

-- ---- 1: each call takes everything it could be handed, and does its work or refuses by a number

pub record Demand1 (image table : List ℕ) : Type 0 where
  -- the words that a table needs: nine for each rule of an accepted image, 0 for one that is refused, told by its number and position
  pub words : (m : Model) (end : ℕ) → decode image ≡ read_got m end → needed_of image ≡ record { number = 0; position = 0; words = 9 * length m.rules }
  pub no_words : (n at : ℕ) → decode image ≡ read_refused n at → needed_of image ≡ record { number = n; position = at; words = 0 }
  -- each number is answered exactly when its row of the table holds, and no row before it
  pub open_answers : (n : ℕ) → ((open_of image table).number ≡ n) ↔ Given image table AfterOpen n
  pub run_answers : (s : State) (asked n : ℕ) → ((run_of image s table asked).number ≡ n) ↔ Given image table (AfterRun s table none asked) n
  pub refresh_answers : (s : State) (mark n : ℕ) → ((refresh_of image s mark table).number ≡ n) ↔ Given image table (AfterRefresh s mark) n
  -- an image and a table that are taken, a well-formed state and an allowed mark are never refused: the work is done
  pub open_works : (m : Model) → Taken image table m → open_of image table ≡ record { number = 0; position = 0; state = open_state m; table = fresh_table m.rules (open_state m) }
  pub run_works : (s : State) (asked : ℕ) (m : Model) → Taken image table m → well_formed m s ≡ true
      → RanTo m (going s table none) asked (trace_of image s table asked).events (run_of image s table asked) none
  pub refresh_works : (s : State) (mark : ℕ) (m : Model) → Taken image table m → well_formed m s ≡ true → mark < 2 ^ m.buffers
      → refresh_of image s mark table ≡ record { number = 0; position = 0; count = refresh_count m.rules mark; table = refresh m.rules s mark table }
  -- "Numbers 1 to 6 and 10 return count 0, the state as handed in (an all-zero state from open) and an unaltered table", and "11 to 13 return and leave what 3 does"
  pub open_leaves : ((open_of image table).number ≡ 0 → ⊥) → ((open_of image table).state ≡ zero_state) × ((open_of image table).table ≡ table)
  pub run_leaves : (s : State) (asked : ℕ) → Beforehand (run_of image s table asked).number
      → run_of image s table asked ≡ record { number = (run_of image s table asked).number; position = (run_of image s table asked).position; state = s; table = table; made = 0 }
  pub trace_leaves : (s : State) (asked : ℕ) → Beforehand (run_of image s table asked).number → (trace_of image s table asked).events ≡ []
  -- (a refresh gives no state back)
  pub refresh_leaves : (s : State) (mark : ℕ) → ((refresh_of image s mark table).number ≡ 0 → ⊥) → ((refresh_of image s mark table).count ≡ 0) × ((refresh_of image s mark table).table ≡ table)

-- For every image and every table, whatever bytes and words they are.
pub demand-1 : (image table : List ℕ) → Demand1 image table
demand-1 image table =
    record {
      words = numbers.length-accepted image;
      no_words = numbers.length-refused image;
      open_answers = numbers.open-exactly image table;
      run_answers = λ s asked. numbers.run-exactly image table s asked;
      refresh_answers = λ s mark. numbers.refresh-exactly image table s mark;
      open_works = numbers.open-taken image table;
      run_works = λ s asked. numbers.run-taken image table s asked;
      refresh_works = λ s mark. numbers.refresh-taken image table s mark;
      open_leaves = numbers.open-refused image table;
      run_leaves = λ s asked. numbers.run-refused image table s asked;
      trace_leaves = λ s asked. numbers.trace-refused image table s asked;
      refresh_leaves = λ s mark. numbers.refresh-refused image table s mark;
    }

-- ---- 2: with the fresh table every step is the step of the published semantics

-- For every accepted image, every well-formed state of it, with its fresh table, and any number of steps: the steps made are transitions in the order told, as many
-- as counted, no others are possible, and the number says why there are no more (`Published.Follows`).
pub demand-2 : (image : List ℕ) (m : Model) (end : ℕ) → decode image ≡ read_got m end → (s : State) → well_formed m s ≡ true → (asked : ℕ)
    → let table : List ℕ = fresh_table m.rules s in let a : Ran = run_of image s table asked in
    Follows m (alone s) asked (trace_of image s table asked).events (alone a.state) a.made a.number
demand-2 image m end accepted s well asked =
    let ran = semantics.fresh-run image m end accepted s well asked in
    record {
      path = ran.path;
      counted = ran.counted;
      no_other = λ es s' p l. semantics.path-once image m end accepted none s es _ s' _ p ran.path (l ∙ ran.counted);
      ended = ran.ended;
    }

-- ---- 3: a refresh makes fresh what a mark touches and nothing else, so that the kept table can never be told from a fresh one

pub record Demand3 (image : List ℕ) (m : Model) : Type 0 where
  -- of any table of nine words a rule, right or wrong: the entries of the rules that test or query a marked buffer become the fresh ones, no other word is altered, and
  -- the first rules are counted. It is not refused
  pub refreshes : (s : State) (mark : ℕ) (table : List ℕ) → well_formed m s ≡ true → mark < 2 ^ m.buffers → length table ≡ 9 * length m.rules
      → let a : Refreshed = refresh_of image s mark table in (a.number ≡ 0) × RefreshedTo m.rules s mark table a.table a.count
  -- the fresh table of one state, refreshed with a mark of every buffer in which another differs, is the fresh table of the other
  pub renews : (s s' : State) (mark : ℕ) → well_formed m s' ≡ true → mark < 2 ^ m.buffers → ((b : ℕ) → bit mark b ≡ false → buffer_of s b ≡ buffer_of s' b)
      → (refresh_of image s' mark (fresh_table m.rules s)).table ≡ fresh_table m.rules s'
  -- an opening with a table of the right length is not refused, and writes the fresh table
  pub opens : (table : List ℕ) → length table ≡ 9 * length m.rules → ((open_of image table).number ≡ 0) × ((open_of image table).table ≡ fresh_table m.rules (open_of image table).state)
  -- and after any kept runs, with any words lent, refreshes, and changes of buffers that are refreshed with their mark, the table is the fresh one and the state well
  -- formed
  pub keeps : (s : State) (table : List ℕ) → Reached image s table → (table ≡ fresh_table m.rules s) × (well_formed m s ≡ true) × Machine s

-- For every accepted image.
pub demand-3 : (image : List ℕ) (m : Model) (end : ℕ) → decode image ≡ read_got m end → Demand3 image m
demand-3 image m end accepted =
    record {
      refreshes = λ s mark table well low long.
          rw (numbers.refresh-taken image table s mark m (numbers.accepted-taken image table m end accepted long) well low) (refl, refreshing.refresh-promise m.rules s mark table long);
      renews = λ s s' mark well low same.
          let taken = numbers.accepted-taken image (fresh_table m.rules s) m end accepted (fresh-length m.rules s) in
          rw (numbers.refresh-taken image (fresh_table m.rules s) s' mark m taken well low) (refreshing.refresh-renews m.rules s s' mark same);
      opens = λ table long. rw (numbers.open-taken image table m (numbers.accepted-taken image table m end accepted long)) (refl, refl);
      keeps = λ s table r. (keeping.reached-fresh image m end accepted r, keeping.reached-well image m end accepted r, keeping.reached-machine image m end accepted r);
    }

-- ---- request 2026-02, the run without a table: the tutor, who keeps one, and the laboratory, which has none, never see different runs

pub record Laboratory (image : List ℕ) (s : State) (asked : ℕ) : Type 0 where
  -- it is the kept run handed the fresh table, its number, state and events, and so its answer
  pub as_kept : (m : Model) (end : ℕ) → decode image ≡ read_got m end → AsKept (trace_of image s (fresh_table m.rules s) asked) (fresh_trace_of image s asked)
  pub answers_as_kept : (m : Model) (end : ℕ) → decode image ≡ read_got m end → fresh_of image s asked ≡ answer_of (run_of image s (fresh_table m.rules s) asked)
  -- a refused image gets the same number and position from both, the state handed in and count 0
  pub refused_as_kept : (n at : ℕ) → decode image ≡ read_refused n at → (table : List ℕ)
      → (run_of image s table asked ≡ record { number = n; position = at; state = s; table = table; made = 0 }) × (fresh_of image s asked ≡ record { number = n; position = at; state = s; made = 0 })
  -- whatever table a caller holds after any kept runs, refreshes, and changes of buffers that are refreshed with their mark: it is the kept run handed that table
  pub as_held : (table : List ℕ) → Reached image s table → AsKept (trace_of image s table asked) (fresh_trace_of image s asked)
  pub answers_as_held : (table : List ℕ) → Reached image s table → fresh_of image s asked ≡ answer_of (run_of image s table asked)
  -- demand 1: each number exactly when its row holds, and no row before it; refused by 1 to 4, 6 or 11 to 13, it gives the state back and counts nothing
  pub answers : (n : ℕ) → ((fresh_of image s asked).number ≡ n) ↔ GivenBare image (AfterFresh s none asked) n
  pub leaves : Beforehand (fresh_of image s asked).number
      → fresh_of image s asked ≡ record { number = (fresh_of image s asked).number; position = (fresh_of image s asked).position; state = s; made = 0 }
  -- demand 2, from a well-formed state
  pub follows : (m : Model) (end : ℕ) → decode image ≡ read_got m end → well_formed m s ≡ true
      → let a : FreshRan = fresh_of image s asked in Follows m (alone s) asked (fresh_trace_of image s asked).events (alone a.state) a.made a.number

-- For every image, every state, well formed or not, and any number of steps.
pub laboratory : (image : List ℕ) (s : State) (asked : ℕ) → Laboratory image s asked
laboratory image s asked =
    record {
      as_kept = fresh.fresh-as-kept image s asked;
      answers_as_kept = fresh.fresh-answers image s asked;
      refused_as_kept = fresh.refused-as-kept image s asked;
      as_held = fresh.reached-as-kept image s asked;
      answers_as_held = fresh.reached-answers image s asked;
      answers = fresh.fresh-exactly image s asked;
      leaves = fresh.fresh-refused image s asked;
      follows = fresh.fresh-published image s asked;
    }

-- ---- request 2026-03: every call says where an image is bad, and no image is judged otherwise than before

pub record Where (image : List ℕ) : Type 1 where
  -- "Everything refused stays refused and nothing new is": both numberings accept the same model, or refuse at the same position, the finer number standing for 01's
  pub as_before : SameVerdict (decode_by finer image) (decode_by coarse image)
  -- "from every call the position of the offending field's first bit for 2, 3 and these, else 0"
  pub length_tells : Located image (needed_of image).number (needed_of image).position
  pub open_tells : (table : List ℕ) → Located image (open_of image table).number (open_of image table).position
  pub run_tells : (s : State) (table : List ℕ) (asked : ℕ) → Located image (run_of image s table asked).number (run_of image s table asked).position
  pub refresh_tells : (s : State) (mark : ℕ) (table : List ℕ) → Located image (refresh_of image s mark table).number (refresh_of image s mark table).position
  pub fresh_tells : (s : State) (asked : ℕ) → Located image (fresh_of image s asked).number (fresh_of image s asked).position
  -- the position is a bit of the image, but for 2 and for tests that end with the image at most at its end; it is the first bit of the field that is refused, or the bit
  -- after a rule's last test; and every field before it is in order, whatever follows
  pub within : (n at : ℕ) → decode image ≡ read_refused n at → at ≤ 8 * length image
  pub inside : (n at : ℕ) → decode image ≡ read_refused n at → HasPlace n → (n ≡ not_there) ⊎ ((at < 8 * length image) ⊎ ((n ≡ bad_variable) × TestsEndAt image at))
  pub first : (n at : ℕ) → decode image ≡ read_refused n at → HasPlace n → FieldAtBit image n at ⊎ ((n ≡ bad_variable) × TestsEndAt image at)
  pub in_order : (n at : ℕ) → decode image ≡ read_refused n at → HasPlace n → WhateverFollows image at λ image'. (k x : ℕ) → decode image' ≡ read_refused k x → HasPlace k → at ≤ x

-- For every image.
pub say-where : (image : List ℕ) → Where image
say-where image =
    record {
      as_before = placing.refused-as-before image;
      length_tells = placing.length-position image;
      open_tells = placing.open-position image;
      run_tells = placing.run-position image;
      refresh_tells = placing.refresh-position image;
      fresh_tells = placing.fresh-position image;
      within = λ n at refused. (placing.position-most image n at refused).0;
      inside = placing.position-inside image;
      first = placing.position_first image;
      in_order = placing.fields-before image;
    }

-- ---- request 2026-05, "a cleared chunk is remembered": the calls where a word says what is lent of the words beside them (what is found of a store says
-- `Remembering.cleared-recalled`, what a step learns `stores-exactly`, which words are a store `fits-exactly`)

pub record Remembers (image : List ℕ) (s : State) (asked lent : ℕ) (words : List ℕ) : Type 0 where
  -- what is not lent is neither read nor written: the calls with nothing lent, of which all above is said
  pub nothing_lent : bit lent 0 ≡ false → (table : List ℕ)
      → (run_lent image s table asked lent words ≡ record { answer = run_of image s table asked; store = words })
      × (fresh_lent image s asked lent words ≡ record { answer = fresh_of image s asked; store = words })
  -- demand 1: each number exactly when its row holds, and no row before it, 15 after 6 and 14 after 8; refused before a step, the call leaves all as it was, "the store
  -- unaltered"; and it says where the image is bad
  pub answers : (table : List ℕ) (n : ℕ) → ((run_lent image s table asked lent words).answer.number ≡ n) ↔ Given image table (AfterRun s table (lent_by lent words) asked) n
  pub fresh_answers : (n : ℕ) → ((fresh_lent image s asked lent words).answer.number ≡ n) ↔ GivenBare image (AfterFresh s (lent_by lent words) asked) n
  pub leaves : (table : List ℕ) → let a : Ran = (run_lent image s table asked lent words).answer in Beforehand a.number
      → run_lent image s table asked lent words ≡ record { answer = record { number = a.number; position = a.position; state = s; table = table; made = 0 }; store = words }
  pub fresh_leaves : let a : FreshRan = (fresh_lent image s asked lent words).answer in Beforehand a.number
      → fresh_lent image s asked lent words ≡ record { answer = record { number = a.number; position = a.position; state = s; made = 0 }; store = words }
  pub tells : (table : List ℕ) → let a : Ran = (run_lent image s table asked lent words).answer in Located image a.number a.position
  pub fresh_tells : let a : FreshRan = (fresh_lent image s asked lent words).answer in Located image a.number a.position
  -- demand 2, from a well-formed state with its fresh table and a store that fits: "image facts, then store facts numbered after them"
  pub follows : (m : Model) (end : ℕ) → decode image ≡ read_got m end → well_formed m s ≡ true → store_fits m.types (lent_by lent words) ≡ true
      → let table : List ℕ = fresh_table m.rules s in
      let r : Run Going = trace_lent image s table asked (lent_by lent words) in let a : Ran = (run_lent image s table asked lent words).answer in
      Follows m (moving s (store_of (lent_by lent words))) asked r.events (moving a.state r.left.store) a.made a.number
  pub fresh_follows : (m : Model) (end : ℕ) → decode image ≡ read_got m end → well_formed m s ≡ true → store_fits m.types (lent_by lent words) ≡ true
      → let r : Run Moving = fresh_trace_lent image s asked (lent_by lent words) in let a : FreshRan = (fresh_lent image s asked lent words).answer in
      Follows m (moving s (store_of (lent_by lent words))) asked r.events (moving a.state r.left.store) a.made a.number
  -- and the store that these transitions end in is what the words read as that are left
  pub reads_back : Machine s → (table : List ℕ) (m : Model) → Taken image table m → well_formed m s ≡ true → store_fits m.types (lent_by lent words) ≡ true
      → store_of (lent_by lent (run_lent image s table asked lent words).store) ≡ (trace_lent image s table asked (lent_by lent words)).left.store
  pub fresh_reads_back : Machine s → (m : Model) (end : ℕ) → decode image ≡ read_got m end → well_formed m s ≡ true → store_fits m.types (lent_by lent words) ≡ true
      → store_of (lent_by lent (fresh_lent image s asked lent words).store) ≡ (fresh_trace_lent image s asked (lent_by lent words)).left.store
  -- demand 3: the table left is the fresh one (and over a chain of calls: `Demand3.keeps`)
  pub keeps : (m : Model) (end : ℕ) → decode image ≡ read_got m end → well_formed m s ≡ true → store_fits m.types (lent_by lent words) ≡ true
      → let a : Ran = (run_lent image s (fresh_table m.rules s) asked lent words).answer in a.table ≡ fresh_table m.rules a.state
  -- the run without a table gives what the kept one gives with the same store, "and leaves the same store": with the fresh table, and with whatever table is held
  pub as_kept : (m : Model) (end : ℕ) → decode image ≡ read_got m end
      → let k : WithStore Ran = run_lent image s (fresh_table m.rules s) asked lent words in fresh_lent image s asked lent words ≡ record { answer = answer_of k.answer; store = k.store }
  pub as_held : (table : List ℕ) → Reached image s table
      → let k : WithStore Ran = run_lent image s table asked lent words in fresh_lent image s asked lent words ≡ record { answer = answer_of k.answer; store = k.store }
  -- the store only grows, in order, "places past the count unaltered word for word", whatever the call answers
  pub only_grows : Machine s → (table : List ℕ) → OnlyGrows words (run_lent image s table asked lent words).store × OnlyGrows words (fresh_lent image s asked lent words).store
  -- where it is not refused: no two equal facts are learned, none that the image has, never more than 256, and the next call takes what is left
  pub learns : Machine s → bit lent 0 ≡ true → (table : List ℕ) (m : Model) → Taken image table m → well_formed m s ≡ true → store_fits m.types (some words) ≡ true
      → Grows m words (run_lent image s table asked lent words).store
  pub fresh_learns : Machine s → bit lent 0 ≡ true → (m : Model) (end : ℕ) → decode image ≡ read_got m end → well_formed m s ≡ true → store_fits m.types (some words) ≡ true
      → Grows m words (fresh_lent image s asked lent words).store

-- For every image, every state, well formed or not, any number of steps, and any words with any word that says what is lent of them.
pub remembers : (image : List ℕ) (s : State) (asked lent : ℕ) (words : List ℕ) → Remembers image s asked lent words
remembers image s asked lent words =
    record {
      nothing_lent = λ b table. (remembering.nothing_lent image s asked lent words b table, remembering.fresh-nothing-lent image s asked lent words b);
      answers = λ table. numbers.lent-exactly image table s asked lent words;
      fresh_answers = fresh.fresh-lent-exactly image s asked lent words;
      leaves = λ table. numbers.lent-refused image table s asked lent words;
      fresh_leaves = fresh.fresh-lent-refused image s asked lent words;
      tells = λ table. placing.run-lent-position image s table asked lent words;
      fresh_tells = placing.fresh-lent-position image s asked lent words;
      follows = λ m end accepted well fits.
          let ran = semantics.fresh-lent image m end accepted s asked lent words fits well in
          record {
            path = ran.path;
            counted = ran.counted;
            no_other = λ es g p l. semantics.path-once image m end accepted (store_of (lent_by lent words)) s es _ g _ p ran.path (l ∙ ran.counted);
            ended = ran.ended;
          };
      fresh_follows = fresh.fresh-lent-published image s asked lent words;
      reads_back = λ machine table m taken well fits. remembering.reads-back image s asked lent words machine m well fits table taken;
      fresh_reads_back = λ machine m end accepted well fits. remembering.fresh-reads-back image s asked lent words machine m well fits end accepted;
      keeps = λ m end accepted well fits. (semantics.fresh-lent image m end accepted s asked lent words fits well).fresh;
      as_kept = fresh.lent-answers image s asked lent words;
      as_held = fresh.reached-lent-answers image s asked lent words;
      only_grows = λ machine table. (remembering.only-grows image s asked lent words machine table, remembering.fresh-only-grows image s asked lent words machine);
      learns = remembering.learns image s asked lent words;
      fresh_learns = remembering.fresh-learns image s asked lent words;
    }

-- ---- request 2026-06, "rules that ask whether a buffer is busy": "marks need no change, and we want that shown" (what a query finds says `Asking.answers-exactly`, that a
-- set flag is beside nil `flag-fits` and `reached-flags`)

-- of a step that did e and made of state s the state s' with this mark
pub record Asks (m : Model) (memory : List Fact) (s : State) (e : Event) (s' : State) (mark : ℕ) : Type 0 where
  -- whatever a query, of any kind and on any buffer, tells apart between the two states, its buffer is marked; and so is one whose flag changed
  pub told_marked : (b : ℕ) (a : Ask) → (answers a (buffer_of s b) ≡ answers a (buffer_of s' b) → ⊥) → bit mark b ≡ true
  pub flag_marked : (b : ℕ) → ((buffer_of s b).error ≡ (buffer_of s' b).error → ⊥) → bit mark b ≡ true
  -- so a fresh table that is refreshed with the mark is fresh after the step, whatever the rules test and ask (and over a chain of calls: `Demand3.keeps`)
  pub renews : (rules : List Rule) → refresh rules s' mark (fresh_table rules s) ≡ fresh_table rules s'
  -- the flag of a buffer is set exactly if a request found no fact, or it was set and nothing acted on the buffer
  pub flags : (b : ℕ) → b < length s.buffers → ((buffer_of s' b).error ≡ true) ↔ Flagged m.rules memory s b e

-- For every step, a firing or a wait, of every model in every state, whatever the table, the facts in memory and the utilities say.
pub asks : (m : Model) (memory : List Fact) (us : List ℤ) (s : State) (table : List ℕ) (e : Event) (s' : State) (mark : ℕ) → step m memory us s table ≡ step_made e s' mark
    → Asks m memory s e s' mark
asks m memory us s table e s' mark made =
    record {
      told_marked = asking.told-marked m memory us s table e s' mark made;
      flag_marked = asking.flag-marked m memory us s table e s' mark made;
      renews = asking.mark-renews m memory us s table e s' mark made;
      flags = asking.flags-exactly m memory us s table e s' mark made;
    }
