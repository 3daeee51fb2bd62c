-- Request 2026-06, "rules that ask whether a buffer is busy", brings a second version of images and an error flag. Here: an image of version 1 means what it meant: the same
-- model, and its runs are those of document 01 but for flags; and every model that has one has an image of version 2 with the same runs, where there is room for it. `Before`
-- has document 01 as it stood, in its words: reading, match, states, step and runs.
use Rattle.std.specs.Prelude.{◌≡◌, refl, ◌↔◌, true, ℕ, ◌+◌, ◌*◌, ◌≤◌, ◌<◌, length, get_or}
use Rattle.std.proofs.Common.{sym, ◌∙◌, arith}
use mathlib.Core.List.{List, [], Memᴰ}
use Rattle.std.proofs.Math.Option.{Option}
use Rattle.meaning.specs.declared.State.{State}
use Rattle.meaning.specs.Numbers.{RuleNumbers, finer, bad_number}
use Rattle.meaning.specs.Model.{Model, Rule, Chunk}
use Rattle.meaning.specs.State.{well_formed}
use Rattle.meaning.specs.Read.{read_refused, read_got}
use Rattle.meaning.specs.Image.{decode_by, decode}
use Rattle.meaning.specs.Match.{matches}
use Rattle.meaning.specs.Refresh.{tests_marked}
use Rattle.meaning.specs.Run.{going, run_from}
use Rattle.meaning.specs.Calls.{trace_lent, run_lent, refresh_of}
use Rattle.meaning.specs.Fresh.{moving, fresh_from, fresh_trace_lent, fresh_lent}
use Rattle.promises.specs.Before.{version_of, decode01_by, decode01, NoQueries, matches01, tests_marked01, well_formed01, unflagged, run_from01, fresh_from01}
use Rattle.promises.specs.Before.{unflagged_run, unflagged_fresh, unflagged_ran, unflagged_fresh_ran, SecondVersion, SameAnswers}
use Rattle.promises.proofs.Proofs.VersionsRead as reading
use Rattle.promises.proofs.Proofs.VersionsFlags as flags
use Rattle.promises.proofs.Proofs.VersionsRuns as runs
use Rattle.promises.proofs.Proofs.VersionsCalls as calls
use Rattle.promises.proofs.Proofs.VersionsSecond as second
use Rattle.promises.proofs.Proofs.VersionsSizes as sizes

-- ---- the same model

-- The version is the first byte.
pub first_byte : (image : List ℕ) → get_or image 0 0 < 256 → version_of image ≡ get_or image 0 0
first_byte image small = reading.version-first image small

-- "Version 1 images open as before": every image is read as document 01 read it, unless its version is 2. It is the same model, or the same refusal at the same position,
-- whatever the numbers of the refusals. So it is for version 1, for every version that is none, and for an image without a version.
pub reads-as-before : (by : RuleNumbers) (image : List ℕ) → (version_of image ≡ 2 → ⊥) → decode_by by image ≡ decode01_by by image
reads-as-before by image other = reading.read-before by image other

-- No image of version 2 was opened: it was refused by 3, at its first bit, if it was not too long.
pub refused-before : (image : List ℕ) → version_of image ≡ 2 → length image ≤ 65536 → decode01 image ≡ read_refused bad_number 0
refused-before image two short = reading.refused-before finer 2 refl image two short

-- So whatever was opened is opened, and is the model that it was.
pub opens-as-before : (image : List ℕ) (m : Model) (end : ℕ) → decode01 image ≡ read_got m end → decode image ≡ read_got m end
opens-as-before image m end d = reading.opened-before image m end d

-- "with no queries": an accepted image whose version is not 2 has in each rule a test, and no query.
pub without-queries : (image : List ℕ) (m : Model) (end : ℕ) → decode image ≡ read_got m end → (version_of image ≡ 2 → ⊥)
    → (r : Rule) → Memᴰ r m.rules → (r.queries ≡ []) × (1 ≤ length r.tests)
without-queries image m end d other r member = reading.accepted-tested image m end d other r member

-- ---- the same match

-- A rule without queries matches exactly if "all its tests hold", and is refreshed exactly if it tests a marked buffer.
pub matches-as-before : (r : Rule) → r.queries ≡ [] → (s : State) → matches r s ≡ matches01 r s
matches-as-before r bare s = flags.matches-before r bare s

pub marked-as-before : (r : Rule) → r.queries ≡ [] → (mark : ℕ) → tests_marked mark r ≡ tests_marked01 mark r
marked-as-before r bare mark = flags.marked-before r bare mark

-- ---- the same states

-- With no flag set a state is well formed exactly if it was;
pub well-formed-as-before : (m : Model) (s : State) → well_formed m (unflagged s) ≡ well_formed01 m s
well-formed-as-before m s = flags.well-before m s

-- and one that is well formed stays so if its flags are left out.
pub well-formed-unflagged : (m : Model) (s : State) → well_formed m s ≡ true → well_formed m (unflagged s) ≡ true
well-formed-unflagged m s well = flags.well-unflagged m s well

-- ---- the same runs

-- Where no rule has a query, a run of any number of steps is the run of 01 from the state without its flags, with the same table and store: it has its number, its events with
-- their clocks, and leaves its table, its store and, but for flags, its state. So is the run without a table. (The table may be any, and the state ill formed.)
module _ (m : Model) (bare : NoQueries m.rules) (steps : ℕ) (s : State) (store : Option (List Chunk)) where
  pub runs-as-before : (table : List ℕ) → unflagged_run (run_from m steps (going s table store)) ≡ run_from01 m steps (going (unflagged s) table store)
  runs-as-before table = runs.run-before m bare steps s table store

  pub fresh-runs-as-before : unflagged_fresh (fresh_from m steps (moving s store)) ≡ fresh_from01 m steps (moving (unflagged s) store)
  fresh-runs-as-before = runs.fresh-run-before m bare steps s store

-- So nobody sees a flag there: from two states that are the same but for flags, with the same table and store, any number of steps gives the same number, the same events with
-- the same clocks, table and store, and leaves two such states again.
module _ (m : Model) (bare : NoQueries m.rules) (steps : ℕ) (s t : State) (alike : unflagged s ≡ unflagged t) (store : Option (List Chunk)) where
  pub runs-alike : (table : List ℕ) → unflagged_run (run_from m steps (going s table store)) ≡ unflagged_run (run_from m steps (going t table store))
  runs-alike table = runs.run-alike m bare steps s t table store alike

  pub fresh-runs-alike : unflagged_fresh (fresh_from m steps (moving s store)) ≡ unflagged_fresh (fresh_from m steps (moving t store))
  fresh-runs-alike = runs.fresh-run-alike m bare steps s t store alike

-- A state without its flags is such a one.
pub unflagged-alike : (s : State) → unflagged (unflagged s) ≡ unflagged s
unflagged-alike s = flags.unflagged-twice s

-- So the calls answer the same, but for flags, from a state and from the state without them: every image whose version is not 2, a refused one too, and every state that is
-- well formed in its model if it has one; any table, any number of steps, any words lent or not.
module _ (image : List ℕ) (other : version_of image ≡ 2 → ⊥) (s : State) (well : (m : Model) (end : ℕ) → decode image ≡ read_got m end → well_formed m s ≡ true) where
  judged : (m : Model) (end : ℕ) → decode image ≡ read_got m end → well_formed m (unflagged s) ≡ well_formed m s
  judged m end d = well-formed-unflagged m s (well m end d) ∙ sym (well m end d)

  pub run-unflagged : (table : List ℕ) (steps lent : ℕ) (words : List ℕ)
      → unflagged_ran (run_lent image (unflagged s) table steps lent words) ≡ unflagged_ran (run_lent image s table steps lent words)
  run-unflagged = calls.run-call-alike image other (unflagged s) s (unflagged-alike s) judged

  pub trace-unflagged : (steps : ℕ) (lent : Option (List ℕ)) (table : List ℕ)
      → unflagged_run (trace_lent image (unflagged s) table steps lent) ≡ unflagged_run (trace_lent image s table steps lent)
  trace-unflagged = calls.trace-alike image other (unflagged s) s (unflagged-alike s) judged

  pub fresh-unflagged : (steps lent : ℕ) (words : List ℕ)
      → unflagged_fresh_ran (fresh_lent image (unflagged s) steps lent words) ≡ unflagged_fresh_ran (fresh_lent image s steps lent words)
  fresh-unflagged = calls.fresh-call-alike image other (unflagged s) s (unflagged-alike s) judged

  pub fresh-trace-unflagged : (steps : ℕ) (lent : Option (List ℕ))
      → unflagged_fresh (fresh_trace_lent image (unflagged s) steps lent) ≡ unflagged_fresh (fresh_trace_lent image s steps lent)
  fresh-trace-unflagged = calls.fresh-trace-alike image other (unflagged s) s (unflagged-alike s) judged

  pub refresh-unflagged : (mark : ℕ) (table : List ℕ) → refresh_of image (unflagged s) mark table ≡ refresh_of image s mark table
  refresh-unflagged = calls.refresh-call-alike image other (unflagged s) s (unflagged-alike s) judged

-- ---- every version 1 model has a version 2 image with the same runs, if that is not too long

-- Of every accepted image of version 1 there is an image of version 2, of bytes and with 2 as its first, that decodes to the same model: four bits longer for each rule, if that
-- is within the 65,536 bytes that an image may have.
pub in-version-two : (image : List ℕ) (m : Model) (end : ℕ) → version_of image ≡ 1 → decode image ≡ read_got m end → end + 4 * length m.rules ≤ 524288
    → SecondVersion m (end + 4 * length m.rules)
in-version-two image m end one d room = second.second-version image m end (λ two. omega (arith, one, two)) d room

-- There is one exactly then. (Not every model has the room: one with 8 buffers, 14 types, one opening chunk of 8 slots, 128 facts of 8 slots and 256 rules, each with 8 tests
-- and 8 requests that name 8 slots, has 524,285 bits in version 1, which is 65,536 bytes, and would have 525,309 in version 2.)
pub version-two-exactly : (image : List ℕ) (m : Model) (end : ℕ) → version_of image ≡ 1 → decode image ≡ read_got m end
    → ((end' : ℕ) × SecondVersion m end') ↔ (end + 4 * length m.rules ≤ 524288)
version-two-exactly image m end one d = (
  λ s. let longer = sizes.second-longer image m end s.0 one d s.1 in omega (arith, longer.0, longer.1),
  λ room. (end + 4 * length m.rules, in-version-two image m end one d room),
)

-- No image of version 2 of that model has another length.
pub version-two-longer : (image : List ℕ) (m : Model) (end end' : ℕ) → version_of image ≡ 1 → decode image ≡ read_got m end → SecondVersion m end' → end' ≡ end + 4 * length m.rules
version-two-longer image m end end' one d s = (sizes.second-longer image m end end' one d s).0

-- And all calls answer the same on both, whatever they are handed:
pub version-two-answers : (image : List ℕ) (m : Model) (end end' : ℕ) → decode image ≡ read_got m end → (s : SecondVersion m end') → SameAnswers image s.image
version-two-answers image m end end' d s = calls.same-answers image s.image m end end' d s.decodes

-- so do any two images that decode to one model, as no call tells where an accepted image ends.
pub answers-alike : (image image' : List ℕ) (m : Model) (end end' : ℕ) → decode image ≡ read_got m end → decode image' ≡ read_got m end' → SameAnswers image image'
answers-alike image image' m end end' d d' = calls.same-answers image image' m end end' d d'
