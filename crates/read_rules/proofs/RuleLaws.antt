-- A rule, part by part, by what the code read.
use Rattle.std.specs.Prelude.{if◌then◌else◌}
use Prim.Native.Nat.{ℕ, ◌+◌, ◌≤◌}
use mathlib.Core.Path.{◌≡◌, refl, sym, ap, ◌∙◌}
use mathlib.Core.Bool.{true, false}
use mathlib.Core.List.{List}
use native.Mathlib.Omega.{arith}
use lib.ListN.{get_or, take}
use Rattle.meaning.specs.Base.{every, up_from}
use Rattle.meaning.specs.Model.{Sizes, Test, Query}
use Rattle.meaning.specs.Read.{read_refused, read_got, follow}
use Rattle.meaning.specs.Numbers.{finer, bad_variable}
use Rattle.meaning.specs.Image.{Head, head, tests, stands_in, queries, body, rule}
use Rattle.layout.specs.Rows.{test_in, tests_in, query_by, queries_at}
use Rattle.layout.proofs.WordLaws.{below_get}
use Rattle.layout.proofs.RowLaws.{rows_same, in-same, test-like}
use Rattle.read_rules.specs.declared.RuleHead.{RuleHead}
use Rattle.read_rules.specs.Heads.{head_in, rule_left}

-- ---- a rule by its head, and what is left after its tests and queries

module _ (version : ℕ) (z : Sizes) (s : List ℕ) (p : ℕ) where
  pub rule-bad : (x y : ℕ) → read_refused x y ≡ head finer version z.buffers s p → read_refused x y ≡ rule finer version z s p
  unfolding rule
  rule-bad x y e = rw (← e)

  pub rule-on : (h : Head) (q : ℕ) → read_got h q ≡ head finer version z.buffers s p → body finer version z h s q ≡ rule finer version z s p
  unfolding rule
  rule-on h q e = rw (← e)

-- tests, the check on the variables and queries, each from where the one before it ended
module _ (version : ℕ) (z : Sizes) (s : List ℕ) (p : ℕ) (h : RuleHead) where
  pub tests-bad : (x y : ℕ) → read_refused x y ≡ tests finer z h.variables h.tests s p → read_refused x y ≡ body finer version z (head_in h) s p
  unfolding body
  tests-bad x y e = rw (← e)

  module _ (ts : List Test) (q : ℕ) (e : read_got ts q ≡ tests finer z h.variables h.tests s p) where
    pub unstood : every (stands_in ts) (up_from 0 h.variables) ≡ false → read_refused bad_variable q ≡ body finer version z (head_in h) s p
    unfolding body
    unstood k = rw (← e, k)

    pub stood : every (stands_in ts) (up_from 0 h.variables) ≡ true
        → body finer version z (head_in h) s p ≡ follow (queries finer version z.buffers h.tests s q) (λ qs at. rule_left z h ts qs s at)
    unfolding body
    stood k = rw (← e, k)

-- ---- what stays where words after it have changed

-- the tests, where only words from 88 on have
pub tests-kept : (w w' : List ℕ) (n : ℕ) → n ≤ 8 → take 88 w' ≡ take 88 w → tests_in w' 0 n ≡ tests_in w 0 n
tests-kept w w' n h e = in-same test_in test-like w' w 0 n (λ j l. below_get 88 w w' e j (omega arith))

-- the queries, where only words from 97 on have
pub queries-kept : (w w' : List ℕ) → get_or w 88 0 ≤ 8 → take 97 w' ≡ take 97 w → queries_at w' 0 ≡ queries_at w 0
queries-kept w w' h e =
    rw (below_get 97 w w' e 88 (omega arith))
    (rows_same (λ k. query_by (get_or w' (89 + k) 0)) (λ k. query_by (get_or w (89 + k) 0)) 0 (get_or w 88 0) (λ k low high. ap query_by (below_get 97 w w' e (89 + k) (omega arith))))
