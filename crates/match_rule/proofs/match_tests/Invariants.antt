use Rattle.std.specs.Prelude.{if◌then◌else◌}
use Rattle.match_rule.proofs.ShutLaws.{because-pending, because-type, because-slot}
use Rattle.match_rule.specs.Shut.{is_hit}
use Rattle.match_rule.specs.declared.Tried.{Tried}
use Prim.Native.Nat.{ℕ, ◌≤◌, ◌<◌, ◌-◌, ◌*◌, ◌+◌, ◌%◌}
use mathlib.Core.Path.{◌≡◌, refl, ap, ap₂, ◌∙◌}
use Rattle.match_rule.specs.declared.Tried.TheVariants.{Hit}
use mathlib.Core.List.{List}
use mathlib.Core.Logic.{⊎_elim}
use borrow.Author.Rules.{rules}
use borrow.Author.Tests.{not-true, not-false}
use native.Mathlib.Omega.{arith}
use lib.ListN.{length, get_or}
use Rattle.meaning.specs.State.{nothing}
use Rattle.layout.specs.Rows.{tests_in}
use Rattle.read_terms.proofs.MaskWalk.{Walk, walk_start, walk-next, walk-on, walk-off, walk_end}
use Rattle.match_rule.specs.Run.{Vars, Run, stop, on, then_on, terms_run, tests_run, no_vars}
use Rattle.match_rule.proofs.TestLaws.{left, tests_from, slots_end, tests-end}
use Rattle.layout.specs.StateWords.{buffers_in}
use Rattle.match_rule.specs.Words.{vars_in}
use Rattle.match_rule.proofs.WordMatch.{term-missed, why-stops, flat-pending, flat-other, flat_on, flat-slot, flat-skip, flat-over}
use Rattle.match_rule.proofs.match_tests.Given as goal

-- what the tests after test i come to
abbrev pub after : List ℕ → ℕ → ℕ → List ℕ → ℕ → Vars → Run
after words o n state i u = tests_run (buffers_in state) (tests_from words o (i + 1) (n - (i + 1))) u

abbrev pub invariant-loop-rest : goal.invariant-loop-rest
invariant-loop-rest l = (l.tried ≡ Hit) × Walk (get_or l.words (l.q + 2) 0) l.b l.rest × ((length l.bound ≡ 8) × (length l.nine ≡ 9))
    × (then_on (terms_run (get_or (buffers_in l.state) (get_or l.words l.q 0 % 8) nothing).slots (left l.words l.q (get_or l.words (l.q + 2) 0) l.b) (vars_in l.bound l.nine)) (after l.words l.o l.n l.state l.i)
    ≡ tests_run (buffers_in l.state) (tests_in l.words l.o l.n) no_vars)

abbrev pub invariant-tests : goal.invariant-tests
invariant-tests l = (l.tried ≡ Hit) × (l.i ≤ l.n) × (l.q ≡ l.o + 11 * l.i) × ((length l.bound ≡ 8) × (length l.nine ≡ 9))
    × (tests_run (buffers_in l.state) (tests_from l.words l.o l.i (l.n - l.i)) (vars_in l.bound l.nine) ≡ tests_run (buffers_in l.state) (tests_in l.words l.o l.n) no_vars)

abbrev pub decreases-loop-rest : goal.decreases-loop-rest
decreases-loop-rest l = 8 - l.b

abbrev pub decreases-tests : goal.decreases-tests
decreases-tests l = l.n - l.i
