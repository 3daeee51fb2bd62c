-- `store_words::lay_places` meets its contract: the places below i stand in rows, and what is left, judged from here on, gives what all give.
use Prim.Native.Nat.{ℕ, ◌+◌, ◌-◌, ◌*◌, ◌≤◌}
use mathlib.Core.Path.{◌≡◌, sym, ap, ◌∙◌, subst}
use mathlib.Core.List.{List}
use native.Mathlib.Omega.{arith}
use lib.ListN.{length}
use Rattle.meaning.specs.Store.{place_in, holdable}
use Rattle.laws.specs.BaseLaws.{no_true}
use Rattle.layout.specs.Plans.{types_on}
use Rattle.layout.proofs.PlanLaws.{sections}
use Rattle.layout.proofs.KeptLaws.{follows}
use Rattle.layout_state.proofs.AllLaws.{all-kept, all-broken, all_done}
use Rattle.store_words.specs.Rows.{RowsLaid}
use Rattle.store_words.proofs.LoadLaws.{rows_none, rows_next, types-stay}
use borrow.Author.Rules.{rules}
use Rattle.store_words.proofs.lay_places.Goals as goal
use Rattle.store_words.proofs.lay_places.Goals.{At-loop-i}

-- the tape has room for a row in each place of the store
room : (c : At-loop-i) → 152 + 11 * (c.args.plan.facts + 256) ≤ length c.args.tape.now
room c = omega (arith, follows c.requires.0, sections c.requires.0, c.requires.1)

like : (c : At-loop-i) → let a = c.args in let place = place_in a.store.now c.loop-i.i in holdable (types_on a.plan a.tape.now) place ≡ holdable (types_on a.plan c.loop-i.tape) place
like c =
    let a = c.args in
    let few : a.plan.declared + 1 ≤ 152 = omega (arith, c.requires.0.most_declared) in
    ap (λ (ts : List ℕ). holdable ts (place_in a.store.now c.loop-i.i))
    (sym (types-stay a.plan.facts a.tape.now c.loop-i.tape a.store.now c.loop-i.i (a.plan.declared + 1) few c.loop-i.invariant.laid))

pub loop-i-init : goal.loop-i-init
loop-i-init c =
    let a = c.args in
    let z : a.n - 0 ≡ a.n = omega arith in
    record { laid = rows_none a.plan.facts a.tape.now a.store.now; judged = rw z }

pub returns-then-not-holds-clause-places : goal.returns-then-not-holds-clause-places
returns-then-not-holds-clause-places c =
    let l = c.loop-i in
    let a = c.args in
    let bad = like (goal.at.returns-then-not-holds-clause-places c).At-loop-i ∙ sym c.holds.ensures ∙ c.if-not-holds.true in
    record {
      judged = all-broken (holdable (types_on a.plan a.tape.now)) (place_in a.store.now) l.i a.n (search rules) bad ∙ l.invariant.judged;
      laid = λ good. absurd (no_true (sym good));
    }

pub loop-i-preserved : goal.loop-i-preserved
loop-i-preserved c =
    let l = c.loop-i in
    let a = c.args in
    let good = like (goal.at.loop-i-preserved c).At-loop-i ∙ sym c.holds.ensures ∙ c.if-not-holds.false in
    record {
      laid = rows_next a.plan.facts a.tape.now l.tape _ a.store.now l.i (omega (arith, room (goal.at.loop-i-preserved c).At-loop-i, c.requires.3)) l.invariant.laid c.lay_row.ensures;
      judged = all-kept (holdable (types_on a.plan a.tape.now)) (place_in a.store.now) l.i a.n (search rules) good ∙ l.invariant.judged;
    }

pub returns-clause-places : goal.returns-clause-places
returns-clause-places c =
    let l = c.loop-i in
    let a = c.args in
    let all : l.i ≡ a.n = search rules in
    record {
      judged = all_done (holdable (types_on a.plan a.tape.now)) (place_in a.store.now) l.i a.n (search rules) ∙ l.invariant.judged;
      laid = λ good. subst (λ (m : ℕ). RowsLaid a.plan.facts a.tape.now l.tape a.store.now m) all l.invariant.laid;
    }
