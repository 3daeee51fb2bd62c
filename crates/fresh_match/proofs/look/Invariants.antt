use Prim.Native.Nat.{ℕ, ◌≤◌, ◌<◌, ◌-◌, ◌*◌, ◌+◌, ◌%◌}
use mathlib.Core.Path.{◌≡◌, refl, sym, ◌∙◌}
use mathlib.Core.Bool.{true}
use mathlib.Core.List.{List}
use mathlib.Core.Logic.{⊎_elim}
use borrow.Author.Rules.{rules}
use native.Mathlib.Omega.{arith}
use lib.ListN.{get_or}
use Rattle.meaning.specs.State.{nothing}
use Rattle.meaning.specs.Match.{queries_hold}
use Rattle.layout.specs.Rows.{tests_in, queries_at}
use Rattle.layout.specs.StateWords.{buffers_in, state_in}
use Rattle.read_terms.proofs.MaskWalk.{Walk, walk_start, walk-next, walk-on, walk-off, walk_end}
use Rattle.match_rule.specs.Run.{Vars, Run, on, then_on, terms_run, tests_run, no_vars}
use Rattle.match_rule.proofs.TestLaws.{left, tests_from, slots_end, tests-end}
use Rattle.match_rule.proofs.WordMatch.{flat_on, flat-slot, flat-skip}
use Rattle.match_rule.proofs.Link.{entry-words}
use Rattle.match_rule.proofs.ShutLaws.{delay-shuts, type-shuts, symbol-shuts}
use Rattle.fresh_match.proofs.SymbolLaws.{symbol-on}
use Rattle.fresh_match.proofs.PlainLaws.{plain-words}
use Rattle.fresh_match.proofs.look.Given as goal

-- what the tests after test i come to
abbrev pub after : List ℕ → ℕ → ℕ → List ℕ → ℕ → Vars → Run
after words o n state i u = tests_run (buffers_in state) (tests_from words o (i + 1) (n - (i + 1))) u

abbrev pub invariant-loop-rest : goal.invariant-loop-rest
invariant-loop-rest l = Walk (get_or l.words (l.q + 2) 0) l.b l.rest
    × (then_on (terms_run (get_or (buffers_in l.state) (get_or l.words l.q 0 % 8) nothing).slots (left l.words l.q (get_or l.words (l.q + 2) 0) l.b) no_vars) (after l.words l.o l.n l.state l.i)
    ≡ tests_run (buffers_in l.state) (tests_in l.words l.o l.n) no_vars)

abbrev pub invariant-loop-i : goal.invariant-loop-i
invariant-loop-i l = (l.i ≤ l.n) × (l.q ≡ l.o + 11 * l.i)
    × (tests_run (buffers_in l.state) (tests_from l.words l.o l.i (l.n - l.i)) no_vars ≡ tests_run (buffers_in l.state) (tests_in l.words l.o l.n) no_vars)

abbrev pub decreases-loop-rest : goal.decreases-loop-rest
decreases-loop-rest l = 8 - l.b

abbrev pub decreases-loop-i : goal.decreases-loop-i
decreases-loop-i l = l.n - l.i
