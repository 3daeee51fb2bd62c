-- The run without a table is the kept run with the fresh one: choice, step, run and call; and so its numbers and its transitions.
use Rattle.std.specs.Prelude.{if◌then◌else◌, ◌≡◌, true, false, List, [], ◌∷◌, leb, ℤ, drop}
use Rattle.std.proofs.Math.Path.{refl}
use Rattle.std.proofs.Common.{ap, take_at, drop_at}
use Rattle.std.proofs.Math.Option.{none}
use Prim.Native.Nat.{ℕ, zero, suc, ◌+◌}
use Rattle.meaning.specs.declared.State.{State}
use Rattle.meaning.specs.Base.{keep}
use Rattle.meaning.specs.Highest.{highest}
use Rattle.meaning.specs.Numbers.{clock_full}
use Rattle.meaning.specs.Model.{Rule}
use Rattle.meaning.specs.Match.{entry_of, fresh_table}
use Rattle.meaning.specs.Choice.{Candidate, candidates, counts, lower, choose}
use Rattle.meaning.specs.Wait.{wait}
use Rattle.meaning.specs.Mark.{mark_of}
use Rattle.meaning.specs.Step.{Event, event_waited, Step, step_stopped, step_made, largest, unless_past, wait_step}
use Rattle.meaning.specs.Fresh.{matched, choose_fresh, Move, stays, moves, moves_to, wait_fresh}
use Rattle.laws.specs.MatchLaws.{entry_length}

-- ---- the choice

-- the candidates from the fresh table are the rules matched afresh
pub matched-fresh : (k : ℕ) (rules : List Rule) (us : List ℤ) (s : State) → candidates k rules us (fresh_table rules s) ≡ matched k rules us s
unfolding candidates matched fresh_table
matched-fresh k [] us s = refl
matched-fresh k (r ∷ rs) us s =
    rw (take_at (entry_of r s) (fresh_table rs s) 9 (entry_length r s), drop_at (entry_of r s) (fresh_table rs s) 9 (entry_length r s), matched-fresh (k + 1) rs (drop 1 us) s) refl

pub choice-fresh : (rules : List Rule) (us : List ℤ) (s : State) → choose rules us (fresh_table rules s) ≡ choose_fresh rules us s
unfolding choose choose_fresh
choice-fresh rules us s = ap (λ (cs : List Candidate). highest lower none (keep counts cs)) (matched-fresh 0 rules us s)

-- ---- the step

-- a step with a table and one without that do the same
pub data Same : Step → Move → Type 0 where
  both-stop : {n : ℕ} → Same (step_stopped n) (stays n)
  both-move : {e : Event} {s' : State} {mark : ℕ} → Same (step_made e s' mark) (moves e s')

pub same-past : (e : Event) (s' : State) (mark : ℕ) → Same (unless_past e s' mark) (moves_to e s')
same-past e s' mark =
    elim (leb s'.clock largest) as (λ t. Same (if t then step_made e s' mark else step_stopped clock_full) (if t then moves e s' else stays clock_full)) [ true ↦ both-move | false ↦ both-stop ]

pub same-wait : (s : State) (ms : ℕ) → Same (wait_step s ms) (wait_fresh s ms)
same-wait s zero = both-stop
same-wait s (suc n) = same-past (event_waited (suc n)) (wait (suc n) s) (mark_of [] s (wait (suc n) s))
