-- Request 2026-06, "rules that ask whether a buffer is busy": what a query finds; that "marks need no change"; and what sets and clears an error flag. (That a rule
-- matches only where its queries hold is in Semantics, which rules a refresh renews in Refreshing, and that a kept table is fresh for rules with queries too in Keeping.)
use Rattle.std.specs.Prelude.{◌≡◌, ◌↔◌, true, List, ℕ, ◌<◌, ℤ, length}
use Rattle.std.proofs.Common.{arith}
use Rattle.meaning.specs.declared.Buffer.{Buffer}
use Rattle.meaning.specs.declared.State.{State}
use Rattle.meaning.specs.Base.{bit}
use Rattle.meaning.specs.Model.{Model, Rule, Ask, Fact}
use Rattle.meaning.specs.State.{buffer_of, is_nil, well_formed}
use Rattle.meaning.specs.Read.{read_got}
use Rattle.meaning.specs.Image.{decode}
use Rattle.meaning.specs.Match.{answers, fresh_table}
use Rattle.meaning.specs.Refresh.{refresh}
use Rattle.meaning.specs.Step.{Event, step_made, step, step_of}
use Rattle.promises.specs.Words.{Reached}
use Rattle.promises.specs.Published.{Finds, Flagged}
use Rattle.promises.proofs.Proofs.Decoded.{decoded}
use Rattle.promises.proofs.Proofs.Matching.{answers-finds, finds-answers}
use Rattle.promises.proofs.Proofs.Marks.{made-marks, refresh-fresh}
use Rattle.promises.proofs.Proofs.WellFormed.{step-well}
use Rattle.promises.proofs.Proofs.Machines.{Sound, chain-sound}
use Rattle.promises.proofs.Proofs.Asked as asked

-- ---- a query

-- A query holds exactly if it finds of its buffer what its kind says: busy, a delay above 0; free, delay 0; error, delay 0 and the flag set.
pub answers-exactly : (a : Ask) (b : Buffer) → (answers a b ≡ true) ↔ Finds a b
answers-exactly a b = (answers-finds a b, finds-answers a b)

-- ---- a step, a firing or a wait, whatever the table, the facts in memory and the utilities say

module _ (m : Model) (memory : List Fact) (us : List ℤ) (s : State) (table : List ℕ) (e : Event) (s' : State) (mark : ℕ) (made : step m memory us s table ≡ step_made e s' mark) where
  -- "marks need no change": whatever a query, of any kind and on any buffer, tells apart between the state before and the state after, its buffer is marked.
  pub told-marked : (b : ℕ) (a : Ask) → (answers a (buffer_of s b) ≡ answers a (buffer_of s' b) → ⊥) → bit mark b ≡ true
  told-marked b a differs = asked.answer-marked m memory us s table e s' mark made b a differs

  -- Part by part: a buffer is marked whose delay went from 0 to above 0,
  pub busy-marked : (b : ℕ) → (buffer_of s b).delay ≡ 0 → 0 < (buffer_of s' b).delay → bit mark b ≡ true
  busy-marked b was is = asked.busy-marked m memory us s table e s' mark made b was is

  -- or from above 0 to 0,
  pub free-marked : (b : ℕ) → 0 < (buffer_of s b).delay → (buffer_of s' b).delay ≡ 0 → bit mark b ≡ true
  free-marked b was is = asked.free-marked m memory us s table e s' mark made b was is

  -- or whose flag changed, visible or not.
  pub flag-marked : (b : ℕ) → ((buffer_of s b).error ≡ (buffer_of s' b).error → ⊥) → bit mark b ≡ true
  flag-marked b differs = asked.flag-marked m memory us s table e s' mark made b differs

  -- So a table that is fresh before the step, refreshed with its mark, is fresh after it, whatever the rules test and ask.
  pub mark-renews : (rules : List Rule) → refresh rules s' mark (fresh_table rules s) ≡ fresh_table rules s'
  mark-renews rules = refresh-fresh rules s s' mark (made-marks m memory us s table e s' mark made)

  -- After the step the flag of a buffer is set exactly if the rule that fired requests it and no fact fits; or it was set before, and the rule that fired has no action on it,
  -- or the step is a wait (`Published.Flagged`).
  pub flags-exactly : (b : ℕ) → b < length s.buffers → ((buffer_of s' b).error ≡ true) ↔ Flagged m.rules memory s b e
  flags-exactly b there = (asked.set-flagged m memory us s table s' mark b there e made, asked.flagged-set m memory us s table s' mark b there e made)

-- ---- "a set flag beside a chunk other than nil, or past the buffer count, is 6"

-- In a well-formed state a set flag is beside nil, and within the buffer count.
pub flag-fits : (m : Model) (s : State) → well_formed m s ≡ true → (b : ℕ) → b < length s.buffers → (buffer_of s b).error ≡ true → (is_nil (buffer_of s b) ≡ true) × (b < m.buffers)
flag-fits m s well b there set = (asked.flag-nil m s well b there set, asked.flag-within m s well b there set)

-- A step of an accepted image leaves a well-formed state well formed, its flags among it.
pub stays-well : (image : List ℕ) (m : Model) (at : ℕ) → decode image ≡ read_got m at → (s : State) (table : List ℕ) → well_formed m s ≡ true
    → (e : Event) (s' : State) (mark : ℕ) → step_of m s table ≡ step_made e s' mark → well_formed m s' ≡ true
stays-well image m at d s table well e s' mark made = step-well m (decoded image m at d) s table well e s' mark made

-- And so a set flag is beside nil over one image in every state that a caller can hold: after an accepted opening, and any kept runs, refreshes, and changes of buffers
-- that are refreshed with their mark.
pub reached-flags : (image : List ℕ) (m : Model) (at : ℕ) → decode image ≡ read_got m at → {s : State} {table : List ℕ} → Reached image s table
    → (b : ℕ) → b < 8 → (buffer_of s b).error ≡ true → (is_nil (buffer_of s b) ≡ true) × (b < m.buffers)
reached-flags image m at d {s} r b low set = let k : Sound m s = chain-sound image m at d r in flag-fits m s k.well b (omega (arith, k.machine.eight)) set
