-- `match_rule::match_tests` meets its contract: what is left of the rule, with the variables so far, gives what the whole gives.
use Rattle.std.specs.Prelude.{if◌then◌else◌}
use Rattle.match_rule.proofs.ShutLaws.{because-pending, because-type, because-slot}
use Rattle.match_rule.specs.Shut.{is_hit}
use Rattle.match_rule.specs.declared.Tried.{Tried}
use Prim.Native.Nat.{ℕ, ◌≤◌, ◌<◌, ◌-◌, ◌*◌, ◌+◌, ◌%◌}
use mathlib.Core.Path.{◌≡◌, refl, ap, ap₂, ◌∙◌}
use Rattle.match_rule.specs.declared.Tried.TheVariants.{Hit}
use mathlib.Core.List.{List}
use mathlib.Core.Logic.{⊎_elim}
use borrow.Author.Rules.{rules}
use borrow.Author.Tests.{not-true, not-false}
use native.Mathlib.Omega.{arith}
use lib.ListN.{length, get_or}
use Rattle.meaning.specs.State.{nothing}
use Rattle.layout.specs.Rows.{tests_in}
use Rattle.read_terms.proofs.MaskWalk.{Walk, walk_start, walk-next, walk-on, walk-off, walk_end}
use Rattle.match_rule.specs.Run.{Vars, Run, stop, on, then_on, terms_run, tests_run, no_vars}
use Rattle.match_rule.proofs.TestLaws.{left, tests_from, slots_end, tests-end}
use Rattle.layout.specs.StateWords.{buffers_in}
use Rattle.match_rule.specs.Words.{vars_in}
use Rattle.match_rule.proofs.WordMatch.{term-missed, why-stops, flat-pending, flat-other, flat_on, flat-slot, flat-skip, flat-over}
use Rattle.match_rule.proofs.match_tests.Goals as goal
use Rattle.match_rule.proofs.match_tests.Goals.{In-loop-rest, else-rest-ge128, then-rest-ge128+else-not-match_term}
use Rattle.match_rule.proofs.match_tests.Invariants.{after}

-- a slot is left
low : (c : In-loop-rest) → c.loop-rest.b < 8
low c = omega (arith, c.loop-rest-test.true, c.loop-rest.invariant.1.small)

pub loop-rest-init : goal.loop-rest-init
loop-rest-init c =
    let a = c.args in (
      c.tests.invariant.0,
      walk_start _,
      c.tests.invariant.3,
      flat_on a.words.now a.state.now a.o a.n c.tests.i c.tests.q (vars_in c.tests.bound c.tests.nine) c.tests.invariant.2 c.tests-test.true c.if-state-k-ne0.false c.if-state-k.false ∙ c.tests.invariant.4,
    )

pub loop-rest-preserved : goal.loop-rest-preserved
loop-rest-preserved c =
    let m = c.loop-rest in
    let a = c.args in
    let w = a.words.now in
    let mask = get_or w (c.tests.q + 2) 0 in
    let next = walk-next m.invariant.1 (low (goal.at.loop-rest-preserved c).In-loop-rest) in
    let after = after w a.o a.n a.state.now c.tests.i in
    (elim c.if-rest-ge128.branch [
      | then-rest-ge128+else-not-match_term came ↦ let n : length c.if-rest-ge128.bound ≡ 8 = ap length came.bound-is ∙ came.match_term.auto.bound ∙ m.invariant.2.0 in
          let l' : length c.if-rest-ge128.nine ≡ 9 = ap length came.nine-is ∙ came.match_term.auto.nine ∙ m.invariant.2.1 in (
            m.invariant.0,
            next,
            (n, l'),
            flat-slot w a.state.now c.tests.q mask m.b (vars_in m.bound m.nine) after (low (goal.at.loop-rest-preserved c).In-loop-rest) (walk-on m.invariant.1 (low (goal.at.loop-rest-preserved c).In-loop-rest) came.if-rest-ge128.true) came.match_term.result
                (vars_in came.match_term.new.bound came.match_term.new.nine) came.match_term.ensures (vars_in c.if-rest-ge128.bound c.if-rest-ge128.nine) (ap₂ vars_in came.bound-is came.nine-is) (came.if-not-match_term.false) ∙ m.invariant.3,
          )
      | else-rest-ge128 came ↦ (
        m.invariant.0,
        next,
        (ap length came.bound-is ∙ m.invariant.2.0, ap length came.nine-is ∙ m.invariant.2.1),
        flat-skip w a.state.now c.tests.q mask m.b (vars_in m.bound m.nine) after (low (goal.at.loop-rest-preserved c).In-loop-rest)
            (vars_in c.if-rest-ge128.bound c.if-rest-ge128.nine) (ap₂ vars_in came.bound-is came.nine-is) (walk-off m.invariant.1 (low (goal.at.loop-rest-preserved c).In-loop-rest) came.if-rest-ge128.false) ∙ m.invariant.3,
      )
    ])

pub tests-preserved : goal.tests-preserved
tests-preserved c =
    let m = c.loop-rest in
    let a = c.args in
    let w = a.words.now in (
      m.invariant.0,
      search rules,
      search rules,
      m.invariant.2,
      slots_end w _ c.tests.q _ m.b (vars_in m.bound m.nine) (after w a.o a.n a.state.now c.tests.i) (walk_end m.invariant.1 (omega arith)) ∙ m.invariant.3,
    )

pub returns-after-tests-clause-stop_after : goal.returns-after-tests-clause-stop_after
returns-after-tests-clause-stop_after c =
    let a = c.args in
    ap (λ (t : Tried). if is_hit t then on (vars_in c.tests.bound c.tests.nine) else stop) c.tests.invariant.0
    ∙ tests-end a.words.now (buffers_in a.state.now) a.o a.n c.tests.i c.tests.q (vars_in c.tests.bound c.tests.nine) c.tests-test.false ∙ c.tests.invariant.4

pub returns-then-state-k-ne0-clause-because : goal.returns-then-state-k-ne0-clause-because
returns-then-state-k-ne0-clause-because c =
    let a = c.args in
    because-pending a.words.now a.state.now a.o a.n c.tests.i c.tests.q c.tests.invariant.2 c.tests-test.true c.if-state-k-ne0.true

pub returns-then-state-k-ne0-clause-stop_after : goal.returns-then-state-k-ne0-clause-stop_after
returns-then-state-k-ne0-clause-stop_after c =
    let a = c.args in
    flat-pending a.words.now a.state.now a.o a.n c.tests.i c.tests.q (vars_in c.tests.bound c.tests.nine) c.tests.invariant.2 c.tests-test.true c.if-state-k-ne0.true ∙ c.tests.invariant.4

pub returns-then-state-k-clause-because : goal.returns-then-state-k-clause-because
returns-then-state-k-clause-because c =
    let a = c.args in
    because-type a.words.now a.state.now a.o a.n c.tests.i c.tests.q c.tests.invariant.2 c.tests-test.true c.if-state-k.true

pub returns-then-state-k-clause-stop_after : goal.returns-then-state-k-clause-stop_after
returns-then-state-k-clause-stop_after c =
    let a = c.args in
    flat-other a.words.now a.state.now a.o a.n c.tests.i c.tests.q (vars_in c.tests.bound c.tests.nine) c.tests.invariant.2 c.tests-test.true c.if-state-k-ne0.false c.if-state-k.true ∙ c.tests.invariant.4

pub returns-then-not-match_term-clause-because : goal.returns-then-not-match_term-clause-because
returns-then-not-match_term-clause-because c =
    let m = c.loop-rest in
    let a = c.args in
    let w = a.words.now in
    let st = a.state.now in
    let low = low (goal.at.returns-then-not-match_term-clause-because c).In-loop-rest in
    let on = walk-on m.invariant.1 low c.if-rest-ge128.true in
    let miss = c.if-not-match_term.true in
    let because = because-slot w st a.o a.n c.tests.i c.tests.q c.tests.invariant.2 c.tests-test.true m.b low on
    (λ s e. term-missed _ _ (vars_in m.bound m.nine) c.match_term.result (vars_in c.match_term.new.bound c.match_term.new.nine) c.match_term.ensures miss s e) in
    rw c.why-tried.ensures because

pub returns-then-not-match_term-clause-stop_after : goal.returns-then-not-match_term-clause-stop_after
returns-then-not-match_term-clause-stop_after c =
    let m = c.loop-rest in
    let a = c.args in
    let w = a.words.now in
    let st = a.state.now in
    let low = low (goal.at.returns-then-not-match_term-clause-stop_after c).In-loop-rest in
    let on = walk-on m.invariant.1 low c.if-rest-ge128.true in
    let miss = c.if-not-match_term.true in
    let because = because-slot w st a.o a.n c.tests.i c.tests.q c.tests.invariant.2 c.tests-test.true m.b low on
    (λ s e. term-missed _ _ (vars_in m.bound m.nine) c.match_term.result (vars_in c.match_term.new.bound c.match_term.new.nine) c.match_term.ensures miss s e) in
    rw c.why-tried.ensures (why-stops (11 * (get_or w c.tests.q 0 % 8) + 1 + m.b) (get_or w (c.tests.q + 3 + m.b) 0) (vars_in c.match_term.new.bound c.match_term.new.nine)
    ∙ flat-over w st c.tests.q (get_or w (c.tests.q + 2) 0) m.b (vars_in m.bound m.nine) (after w a.o a.n st c.tests.i)
    low on c.match_term.result (vars_in c.match_term.new.bound c.match_term.new.nine) c.match_term.ensures miss ∙ m.invariant.3)
