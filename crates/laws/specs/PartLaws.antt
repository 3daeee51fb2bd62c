-- Parts of a list, as they are lent: n elements from i on, and all elements from i on.
use Rattle.std.specs.Prelude.{ℕ, ◌+◌, ◌-◌, ◌≤◌, ◌<◌, ◌≡◌, List, length, get_or, take, drop}
use Rattle.std.proofs.Common.{ap, ◌∙◌, arith, length-drop, get_or-take, get_or-drop, take_all}
use borrow.Rule.Slice.PartMut.{mid_len}

module _ (i n : ℕ) (s : List ℕ) where
  abbrev pub part : List ℕ
  part = take (i + n - i) (drop i s)

  pub part-long : i + n ≤ length s → length part ≡ n
  part-long h = mid_len i (i + n) s h ∙ omega arith

  pub part-get : (k : ℕ) → k < n → get_or part k 0 ≡ get_or s (i + k) 0
  part-get k h = get_or-take (i + n - i) (drop i s) k 0 (omega arith) ∙ get_or-drop i s k 0

module _ (i : ℕ) (s : List ℕ) where
  abbrev pub rest : List ℕ
  rest = take (length s - i) (drop i s)

  -- a part that goes to the list's end is what its start leaves
  pub to_end : take (length s - i) (drop i s) ≡ drop i s
  to_end = take_all (length s - i) (drop i s) (omega (arith, length-drop i s))

  pub rest-long : length rest ≡ length s - i
  rest-long = mid_len i (length s) s (omega arith)

  pub rest-get : (k : ℕ) → get_or rest k 0 ≡ get_or s (i + k) 0
  rest-get k = ap (λ (l : List ℕ). get_or l k 0) to_end ∙ get_or-drop i s k 0
