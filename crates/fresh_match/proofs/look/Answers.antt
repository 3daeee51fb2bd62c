-- `fresh_match::look` meets its contract: each word at which it gives up shuts the rule; and as long as no variable is met, what is left of the tests gives what all give.
use Prim.Native.Nat.{ℕ, ◌≤◌, ◌<◌, ◌-◌, ◌*◌, ◌+◌, ◌%◌}
use mathlib.Core.Path.{◌≡◌, refl, sym, ◌∙◌}
use mathlib.Core.Bool.{true}
use mathlib.Core.List.{List}
use mathlib.Core.Logic.{⊎_elim}
use borrow.Author.Rules.{rules}
use native.Mathlib.Omega.{arith}
use lib.ListN.{get_or}
use Rattle.meaning.specs.State.{nothing}
use Rattle.meaning.specs.Match.{queries_hold}
use Rattle.layout.specs.Rows.{tests_in, queries_at}
use Rattle.layout.specs.StateWords.{buffers_in, state_in}
use Rattle.read_terms.proofs.MaskWalk.{Walk, walk_start, walk-next, walk-on, walk-off, walk_end}
use Rattle.match_rule.specs.Run.{Vars, Run, on, then_on, terms_run, tests_run, no_vars}
use Rattle.match_rule.proofs.TestLaws.{left, tests_from, slots_end, tests-end}
use Rattle.match_rule.proofs.WordMatch.{flat_on, flat-slot, flat-skip}
use Rattle.match_rule.proofs.Link.{entry-words}
use Rattle.match_rule.proofs.ShutLaws.{delay-shuts, type-shuts, symbol-shuts}
use Rattle.fresh_match.proofs.SymbolLaws.{symbol-on}
use Rattle.fresh_match.proofs.PlainLaws.{plain-words}
use Rattle.fresh_match.proofs.look.Goals as goal
use Rattle.fresh_match.proofs.look.Goals.{In-loop-rest, else-rest-ge128, then-rest-ge128+else-term-ge4096+else-state-k-2}
use Rattle.fresh_match.proofs.look.Invariants.{after}

-- a slot is left
low : (c : In-loop-rest) → c.loop-rest.b < 8
low c = omega (arith, c.loop-rest-test.true, c.loop-rest.invariant.0.small)

pub returns-then-state-k-ne0 : goal.returns-then-state-k-ne0
returns-then-state-k-ne0 c =
    let l = c.loop-i in
    let a = c.args in
    λ r clock is. delay-shuts a.words.now a.o a.n l.i l.q l.invariant.1 c.loop-i-test.true r is a.state.now clock c.if-state-k-ne0.true

pub returns-then-state-k : goal.returns-then-state-k
returns-then-state-k c =
    let l = c.loop-i in
    let a = c.args in
    λ r clock is. type-shuts a.words.now a.o a.n l.i l.q l.invariant.1 c.loop-i-test.true r is a.state.now clock c.if-state-k.true

pub loop-rest-init : goal.loop-rest-init
loop-rest-init c =
    let l = c.loop-i in
    let a = c.args in (
      walk_start _,
      flat_on a.words.now a.state.now a.o a.n l.i l.q no_vars l.invariant.1 c.loop-i-test.true c.if-state-k-ne0.false c.if-state-k.false ∙ l.invariant.2,
    )

pub returns-then-state-k-2 : goal.returns-then-state-k-2
returns-then-state-k-2 c =
    let m = c.loop-rest in
    let l = c.loop-i in
    let a = c.args in
    let on = walk-on m.invariant.0 (low (goal.at.returns-then-state-k-2 c).In-loop-rest) c.if-rest-ge128.true in
    λ r clock is.
    symbol-shuts a.words.now a.o a.n l.i l.q l.invariant.1 c.loop-i-test.true r is m.b (low (goal.at.returns-then-state-k-2 c).In-loop-rest) on
    (omega (arith, c.if-term-ge4096.false)) a.state.now clock c.if-state-k-2.true

pub loop-rest-preserved : goal.loop-rest-preserved
loop-rest-preserved c =
    let m = c.loop-rest in
    let l = c.loop-i in
    let a = c.args in
    let w = a.words.now in
    let mask = get_or w (l.q + 2) 0 in
    let next = walk-next m.invariant.0 (low (goal.at.loop-rest-preserved c).In-loop-rest) in
    let rest = after w a.o a.n a.state.now l.i in
    (elim c.if-rest-ge128.branch [
      | then-rest-ge128+else-term-ge4096+else-state-k-2 came ↦ (
        next,
        flat-slot w a.state.now l.q mask m.b no_vars rest (low (goal.at.loop-rest-preserved c).In-loop-rest) (walk-on m.invariant.0 (low (goal.at.loop-rest-preserved c).In-loop-rest) came.if-rest-ge128.true) true no_vars
            (symbol-on _ _ no_vars (omega (arith, came.if-term-ge4096.false)) came.if-state-k-2.false) no_vars refl refl ∙ m.invariant.1,
      )
      | else-rest-ge128 came ↦ (
        next,
        flat-skip w a.state.now l.q mask m.b no_vars rest (low (goal.at.loop-rest-preserved c).In-loop-rest) no_vars refl (walk-off m.invariant.0 (low (goal.at.loop-rest-preserved c).In-loop-rest) came.if-rest-ge128.false) ∙ m.invariant.1,
      )
    ])

pub loop-i-preserved : goal.loop-i-preserved
loop-i-preserved c =
    let m = c.loop-rest in
    let l = c.loop-i in
    let a = c.args in
    let w = a.words.now in (
      search rules,
      search rules,
      slots_end w _ l.q _ m.b no_vars (after w a.o a.n a.state.now l.i) (walk_end m.invariant.0 (omega arith)) ∙ m.invariant.1,
    )

pub returns : goal.returns
returns c =
    let l = c.loop-i in
    let a = c.args in
    let w = a.words.now in
    let all : on no_vars ≡ tests_run (buffers_in a.state.now) (tests_in w a.o a.n) no_vars =
    tests-end w (buffers_in a.state.now) a.o a.n l.i l.q no_vars c.loop-i-test.false ∙ l.invariant.2 in
    λ r clock is.
    let s = state_in a.state.now clock in
    sym (entry-words w a.o a.n r s is) ∙ plain-words (tests_run (buffers_in a.state.now) (tests_in w a.o a.n) no_vars) (queries_hold (queries_at w a.o) s) all
