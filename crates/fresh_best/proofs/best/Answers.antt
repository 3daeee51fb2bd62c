-- `fresh_best::best` meets its contract: the best so far, and then the rules that are left, give the best of all; its entry stands in the nine words.
use Prim.Native.Nat.{ℕ, ◌+◌}
use mathlib.Core.Path.{◌≡◌, refl, sym, ◌∙◌}
use mathlib.Core.Bool.{true}
use mathlib.Core.List.{List}
use native.Mathlib.Omega.{arith}
use lib.ListN.{length}
use Rattle.meaning.specs.Choice.{counts}
use Rattle.layout.specs.Rows.{rule_in}
use Rattle.layout.specs.StateWords.{state_in}
use Rattle.match_best.specs.Chosen.{candidate_with}
use Rattle.match_best.proofs.TurnLaws.{chosen_from, chosen-end, chosen-skip, chosen-turn, chosen-kept}
use Rattle.match_rule.proofs.MadeLaws.{rule-stands}
use Rattle.fresh_best.specs.Matched.{entry_in}
use Rattle.fresh_best.proofs.FreshLaws.{fresh_start}
use Rattle.fresh_best.proofs.best.Goals as goal
use Rattle.fresh_best.proofs.best.Goals.{After-hits, else-hits, then-hits+else-top-height, then-hits+then-top-height}
use Rattle.fresh_best.proofs.best.Invariants.{Turning}

-- rule k, matched: whether its entry counts
counted : (c : After-hits) → let l = c.loop-k in let a = c.args in (clock : ℕ) → c.hits.result ≡ counts (candidate_with a.heads.now a.words.now (entry_in a.heads.now a.words.now (state_in a.state.now clock)) l.k)
counted c clock =
    let a = c.args in
    c.hits.ensures.counted (rule_in a.heads.now a.words.now c.loop-k.k) clock (rule-stands a.heads.now a.words.now c.loop-k.k)

pub loop-k-init : goal.loop-k-init
loop-k-init c =
    let a = c.args in
    record {
      nine_words = c.requires.2;
      trial_words = refl;
      leads = refl;
      entered = tt;
      so_far = λ clock. fresh_start a.heads.now a.words.now (state_in a.state.now clock) a.n;
    }

pub loop-k-preserved : goal.loop-k-preserved
loop-k-preserved c =
    let l = c.loop-k in
    let a = c.args in
    let heads = a.heads.now in
    let words = a.words.now in
    let at : ℕ → ℕ → List ℕ = λ clock. entry_in heads words (state_in a.state.now clock) in
    let tried : length c.hits.new.nine ≡ 9 = c.hits.auto.nine ∙ l.invariant.trial_words in
    let stays : ((clock : ℕ) → chosen_from heads words (at clock) a.n (l.k + 1) l.best ≡ chosen_from heads words (at clock) a.n l.k l.best)
    → Turning heads words a.n a.state.now l.nine c.hits.new.nine l.best l.top (l.k + 1) =
    λ same. record {
      nine_words = l.invariant.nine_words;
      trial_words = tried;
      leads = l.invariant.leads;
      entered = l.invariant.entered;
      so_far = λ clock. same clock ∙ l.invariant.so_far clock;
    } in
    (elim c.if-hits.branch [
      | then-hits+then-top-height w ↦ let matches : (clock : ℕ) → counts (candidate_with heads words (at clock) l.k) ≡ true = λ clock. sym (counted (goal.at.loop-k-preserved c).After-hits clock) ∙ w.if-hits.true in
          let copied = w.copy_from_slice.ensures.after in
          rw (w.nine-is, w.best-is, w.top-is)
          (record {
            nine_words = w.copy_from_slice.auto.self ∙ l.invariant.nine_words;
            trial_words = tried;
            leads = (c.loop-k-test.true, w.key-height.ensures);
            entered = λ clock. copied ∙ c.hits.ensures.entered w.if-hits.true (rule_in heads words l.k) clock (rule-stands heads words l.k);
            so_far = λ clock. chosen-turn heads words (at clock) a.n l.k l.best c.loop-k-test.true (matches clock) (λ i. omega (arith, c.type_inv.heads i)) l.top _ l.invariant.leads w.key-height.ensures w.if-top-height.true
                ∙ l.invariant.so_far clock;
          })
      | then-hits+else-top-height w ↦ let matches : (clock : ℕ) → counts (candidate_with heads words (at clock) l.k) ≡ true = λ clock. sym (counted (goal.at.loop-k-preserved c).After-hits clock) ∙ w.if-hits.true in
          rw (w.nine-is, w.best-is, w.top-is)
          (stays (λ clock. chosen-kept heads words (at clock) a.n l.k l.best c.loop-k-test.true (matches clock) (λ i. omega (arith, c.type_inv.heads i)) l.top _ l.invariant.leads w.key-height.ensures w.if-top-height.false))
      | else-hits w ↦ rw (w.nine-is, w.best-is, w.top-is) (stays (λ clock. chosen-skip heads words (at clock) a.n l.k l.best c.loop-k-test.true (sym (counted (goal.at.loop-k-preserved c).After-hits clock) ∙ w.if-hits.false)))
    ])

pub returns-clause-by_index : goal.returns-clause-by_index
returns-clause-by_index c =
    let l = c.loop-k in
    let a = c.args in
    let heads = a.heads.now in
    let words = a.words.now in
    λ clock. sym (l.invariant.so_far clock) ∙ chosen-end heads words (entry_in heads words (state_in a.state.now clock)) a.n l.k l.best (omega arith)
