-- One rule more: the rules below it say what they said, and it says what was read.
use Prim.Native.Nat.{ℕ, ◌+◌, ◌*◌, ◌≤◌, ◌<◌}
use mathlib.Core.Path.{◌≡◌, refl, sym, ap, ap₂, ◌∙◌}
use mathlib.Core.List.{List, [], ◌∷◌, ◌++◌}
use native.Mathlib.Omega.{arith}
use native.Mathlib.Decide.{ℕ_discrete}
use lib.ListN.{length, get_or, take, drop, length-drop}
use lib.Seq.{sets, length-sets, drop-drop, get_or-drop}
use Rattle.meaning.specs.Base.{bit}
use Rattle.meaning.specs.Model.{Test, Query, Action, Rule}
use Rattle.laws.specs.RefreshLaws.{looks_at}
use Rattle.layout.specs.Rows.{rows_in, test_in, action_in, tests_in, actions_in, rule_in, rules_in, query_by, queries_at, Laid}
use Rattle.layout.proofs.WordLaws.{below_get, sets_below, sets-at, sets-drop, part-below, part-own}
use Rattle.layout.proofs.RowLaws.{rows_more, rows_same, in-drop, test-like, action-like}
use Rattle.layout.proofs.KeptLaws.{SameTo, same-below, rule-kept, rules-kept}
use Rattle.read_rules.specs.Heads.{a_rule, rule_by, RuleFits}

module _ (heads heads' words words' four own : List ℕ) (k : ℕ) (laid : Laid heads words k)
    (old-heads : SameTo (4 * k) heads heads')
    (new-head : (i : ℕ) → i < 4 → get_or heads' (4 * k + i) 0 ≡ get_or four i 0)
    (old-words : SameTo (185 * k) words words') (is-own : drop (185 * k) words' ≡ own) where
  first-new : get_or heads' (4 * k) 0 ≡ get_or four 0 0
  first-new = let e : 4 * k ≡ 4 * k + 0 = omega arith in ap (λ (n : ℕ). get_or heads' n 0) e ∙ new-head 0 (omega arith)

  -- the rows of rule k are its own words
  new-tests : (n : ℕ) → tests_in words' (185 * k) n ≡ tests_in own 0 n
  new-tests n = let e : 185 * k + 0 ≡ 185 * k = omega arith in sym (in-drop test_in test-like words' (185 * k) 0 (185 * k) n e) ∙ ap (λ (l : List ℕ). tests_in l 0 n) is-own

  new-actions : (n : ℕ) → actions_in words' (185 * k + 97) n ≡ actions_in own 97 n
  new-actions n = sym (in-drop action_in action-like words' (185 * k) 97 (185 * k + 97) n refl) ∙ ap (λ (l : List ℕ). actions_in l 97 n) is-own

  -- a word of its own, further on in all words
  new_word : (i : ℕ) → get_or words' (185 * k + i) 0 ≡ get_or own i 0
  new_word i = sym (get_or-drop (185 * k) words' i 0) ∙ ap (λ (l : List ℕ). get_or l i 0) is-own

  new-queries : queries_at words' (185 * k) ≡ queries_at own 0
  new-queries =
      let at : (i : ℕ) → get_or words' (185 * k + 89 + i) 0 ≡ get_or own (89 + i) 0 = λ i. let e : 185 * k + 89 + i ≡ 185 * k + (89 + i) = omega arith in rw e (new_word (89 + i)) in
      rw (new_word 88)
      (rows_same (λ i. query_by (get_or words' (185 * k + 89 + i) 0)) (λ i. query_by (get_or own (89 + i) 0)) 0 (get_or own 88 0) (λ i low high. ap query_by (at i)))

  new-rule : rule_in heads' words' k ≡ rule_by four own
  new-rule =
      rw (first-new, new-head 1 (omega arith), new-head 2 (omega arith))
      (ap₂ (λ (ts : List Test) (as' : List Action). a_rule (get_or four 2 0) ts (queries_at words' (185 * k)) as') (new-tests (get_or four 0 0)) (new-actions (get_or four 1 0))
      ∙ ap (λ (qs : List Query). a_rule (get_or four 2 0) (tests_in own 0 (get_or four 0 0)) qs (actions_in own 97 (get_or four 1 0))) new-queries)

  pub rules-more : rules_in heads' words' (k + 1) ≡ rules_in heads words k ++ (rule_by four own ∷ [])
  rules-more =
      let z : 0 + k ≡ k = omega arith in
      rows_more (rule_in heads' words') 0 k
      ∙ ap₂ (λ (l : List Rule) (r : Rule). l ++ (r ∷ [])) (rules-kept heads heads' words words' k laid old-heads old-words) (ap (rule_in heads' words') z ∙ new-rule)

  module _ (n : ℕ) (h : k < n) (few : n ≤ 256) (hr : 4 * n ≤ length heads') (wr : 185 * n ≤ length words') (f : RuleFits four own) where
    by : {C : Type 0} (j : ℕ) → j < k + 1 → (j < k → C) → (j ≡ k → C) → C
    by j l old new = elim (ℕ_discrete j k) [ yes e ↦ new e | no e ↦ old (omega arith) ]

    old-rule : (j : ℕ) → j < k → rule_in heads' words' j ≡ rule_in heads words j
    old-rule = rule-kept heads heads' words words' k laid old-heads old-words

    pub laid_more : Laid heads' words' (k + 1)
    laid_more =
        record {
          at_most = omega arith;
          heads_room = omega arith;
          words_room = omega arith;
          tests_few = λ j l. by j l (λ g. omega (arith, old-heads (4 * j) (omega arith), laid.tests_few j g)) (λ e. rw e (omega (arith, first-new, f.tests_few)));
          queries_few = λ j l. by j l (λ g. omega (arith, old-words (185 * j + 88) (omega arith), laid.queries_few j g)) (λ e. rw e (omega (arith, new_word 88, f.queries_few)));
          actions_few = λ j l. by j l (λ g. omega (arith, old-heads (4 * j + 1) (omega arith), laid.actions_few j g)) (λ e. rw e (omega (arith, new-head 1 (omega arith), f.actions_few)));
          masks = λ j l.
              by j l (λ g b. ap (λ (mask : ℕ). bit mask b) (old-heads (4 * j + 3) (omega arith)) ∙ laid.masks j g b ∙ ap (λ (r : Rule). looks_at r b) (sym (old-rule j g)))
              (λ e. rw e (λ b. ap (λ (mask : ℕ). bit mask b) (new-head 3 (omega arith)) ∙ f.mask_is b ∙ ap (λ (r : Rule). looks_at r b) (sym new-rule)));
        }

-- heads and rows stand on one tape: rule k's own words came back from rows + 185 k on, and then its head was written
module _ (w w₁ w₂ four own : List ℕ) (rows k n : ℕ) (laid : Laid w (drop rows w) k) (h : k < n) (hr : 4 * n ≤ rows) (wr : rows + 185 * n ≤ length w)
    (lf : length four ≡ 4) (e : w₁ ≡ take (rows + 185 * k) w ++ own) (as_long : length w₁ ≡ length w) (e₂ : w₂ ≡ sets w₁ (4 * k) four) where
  below : take (rows + 185 * k) w₁ ≡ take (rows + 185 * k) w
  below = ap (take (rows + 185 * k)) e ∙ part-below (rows + 185 * k) w own (omega arith)

  rows-after : drop rows w₂ ≡ drop rows w₁
  rows-after = ap (drop rows) e₂ ∙ sets-drop rows w₁ (4 * k) four (omega arith)

  old : SameTo (4 * k) w w₂
  old j a = ap (λ (l : List ℕ). get_or l j 0) e₂ ∙ sets_below w₁ (4 * k) four j a ∙ below_get (rows + 185 * k) w w₁ below j (omega arith)

  new : (i : ℕ) → i < 4 → get_or w₂ (4 * k + i) 0 ≡ get_or four i 0
  new i b = ap (λ (l : List ℕ). get_or l (4 * k + i) 0) e₂ ∙ sets-at w₁ (4 * k) four i (omega arith) (omega arith)

  kept : SameTo (185 * k) (drop rows w) (drop rows w₂)
  kept j a = ap (λ (l : List ℕ). get_or l j 0) rows-after ∙ same-below rows (185 * k) w w₁ below j a

  is-own : drop (185 * k) (drop rows w₂) ≡ own
  is-own = ap (drop (185 * k)) rows-after ∙ drop-drop (185 * k) rows w₁ ∙ ap (drop (rows + 185 * k)) e ∙ part-own (rows + 185 * k) w own (omega arith)

  pub tape-more : rules_in w₂ (drop rows w₂) (k + 1) ≡ rules_in w (drop rows w) k ++ (rule_by four own ∷ [])
  tape-more = rules-more w w₂ (drop rows w) (drop rows w₂) four own k laid old new kept is-own

  pub tape-laid : n ≤ 256 → RuleFits four own → Laid w₂ (drop rows w₂) (k + 1)
  tape-laid few f =
      let l : length w₂ ≡ length w₁ = ap length e₂ ∙ length-sets w₁ (4 * k) four in
      laid_more w w₂ (drop rows w) (drop rows w₂) four own k laid old new kept is-own n h few (omega arith) (omega (arith, length-drop rows w₂)) f

-- no rule yet
pub laid_none : (heads words : List ℕ) → Laid heads words 0
laid_none heads words =
    record {
      at_most = omega arith;
      heads_room = omega arith;
      words_room = omega arith;
      tests_few = λ j l. absurd (omega arith);
      queries_few = λ j l. absurd (omega arith);
      actions_few = λ j l. absurd (omega arith);
      masks = λ j l. absurd (omega arith);
    }
