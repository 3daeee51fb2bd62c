-- What masks hold as the loops go on: one number more, one slot more, one row more.
use Prim.Native.Nat.{ℕ, zero, suc, ◌+◌, ◌-◌, ◌*◌, ◌%◌, ◌^◌, ◌≤◌, ◌<◌}
use mathlib.Core.Path.{◌≡◌, refl, sym, ap, ap₂, ◌∙◌, fun_ext}
use mathlib.Core.Bool.{Bool, true, false, ◌||◌, or-false, or_assoc}
use mathlib.Core.List.{List, [], ◌∷◌, ◌++◌, map, map-append}
use native.Mathlib.Omega.{arith}
use lib.ListN.{get_or}
use lib.Bits.{bit_and, bit_or, and_mask}
use lib.Pow.{pow_mono}
use lib.Dec.{eqb}
use borrow.Author.Tests.{le-ltb}
use Rattle.meaning.specs.Base.{every, any_of, up_from, bit}
use Rattle.meaning.specs.Image.{is_variable, names, stands_in, is_tested}
use Rattle.laws.specs.BaseLaws.{bit-zero}
use Rattle.laws.specs.RefreshLaws.{is_queried}
use Rattle.layout.specs.Rows.{rows_in, word_term, named_in, test_in, tests_in, query_by, queries_in, queries_at}
use Rattle.layout.proofs.RowLaws.{rows_more, rows_same}
use Rattle.read_terms.proofs.MaskBits.{rest, below, below_on, below-off, below_all}
use Rattle.read_named.specs.Masks.{Holds, stands_at, names_buffer}
use Rattle.read_named.proofs.Places.{bit-or, bit-power, eqb_swap, ones-all}

any_last : {A : Type 0} (p : A → Bool) (xs : List A) (x : A) → any_of p (xs ++ (x ∷ [])) ≡ (any_of p xs || p x)
any_last p [] x = or-false (p x)
any_last p (y ∷ xs) x = ap (λ (t : Bool). p y || t) (any_last p xs x) ∙ sym (or_assoc (p y) (any_of p xs) (p x))

-- ---- one number more, as the machine adds it

pub one_is : (k : ℕ) → k ≤ 8 → 1 * 2 ^ k % 65536 ≡ 2 ^ k
one_is k h = omega (arith, pow_mono {i = k} {j = 8} h)

module _ (mask k : ℕ) (h : k < 8) where
  one_more : Holds (λ b. bit mask b || eqb b k) (bit_or mask (1 * 2 ^ k % 65536))
  one_more b = ap (λ (n : ℕ). bit (bit_or mask n) b) (one_is k (omega arith)) ∙ bit-or mask (2 ^ k) b ∙ ap (λ (t : Bool). bit mask b || t) (bit-power k b)

-- ---- a term

module _ (mask t : ℕ) where
  pub with_variable : 4096 ≤ t → Holds (λ v. bit mask v || is_variable v (word_term t)) (bit_or mask (1 * 2 ^ (t % 8) % 65536))
  with_variable h v = rw (le-ltb t 4096 h) (one_more mask (t % 8) (omega arith) v)

-- ---- the loop over the slots of a row: the variables of the slots below b

abbrev pub stands_below : List ℕ → ℕ → ℕ → ℕ → Bool
stands_below w q b v = any_of (λ n. is_variable v n.term) (map (named_in w q) (below (get_or w (q + 2) 0) b))

module _ (w : List ℕ) (q mask : ℕ) where
  pub slots_start : Holds (λ v. bit mask v || stands_below w q 0 v) mask
  unfolding below
  slots_start v = sym (or-false (bit mask v))

  pub slots_end : (seen : ℕ) → Holds (λ v. bit mask v || stands_below w q 8 v) seen → Holds (λ v. bit mask v || stands_at w q v) seen
  unfolding rest
  slots_end seen h v = h v ∙ ap (λ (l : List ℕ). bit mask v || any_of (λ n. is_variable v n.term) (map (named_in w q) l)) (below_all (get_or w (q + 2) 0) 8 (omega arith) refl)

  module _ (b seen seen' : ℕ) (h : Holds (λ v. bit mask v || stands_below w q b v) seen) where
    pub slots_skip : names (get_or w (q + 2) 0) b ≡ false → seen' ≡ seen → Holds (λ v. bit mask v || stands_below w q (b + 1) v) seen'
    slots_skip e z v = rw (z, below-off (get_or w (q + 2) 0) b e) (h v)

    pub slots_turn : names (get_or w (q + 2) 0) b ≡ true → Holds (λ v. bit seen v || is_variable v (word_term (get_or w (q + 3 + b) 0))) seen'
        → Holds (λ v. bit mask v || stands_below w q (b + 1) v) seen'
    slots_turn e g v =
        g v
        ∙ ap (λ (t : Bool). t || is_variable v (word_term (get_or w (q + 3 + b) 0))) (h v)
        ∙ or_assoc (bit mask v) (stands_below w q b v) (is_variable v (word_term (get_or w (q + 3 + b) 0)))
        ∙ ap (λ (t : Bool). bit mask v || t)
        (sym (any_last (λ n. is_variable v n.term) (map (named_in w q) (below (get_or w (q + 2) 0) b)) (named_in w q b))
        ∙ ap (any_of (λ n. is_variable v n.term)) (sym (map-append (named_in w q) (below (get_or w (q + 2) 0) b) (b ∷ [])) ∙ ap (map (named_in w q)) (sym (below_on (get_or w (q + 2) 0) b e))))

-- ---- the loop over rows: the numbers that pass in one of the first i

module _ {A : Type 0} (p : ℕ → A → Bool) (thing : ℕ → A) where
  pub rows_start : Holds (λ v. any_of (p v) (rows_in thing 0 0)) 0
  unfolding rows_in
  rows_start v = bit-zero v

  pub rows_turn : (i m m' : ℕ) → Holds (λ v. any_of (p v) (rows_in thing 0 i)) m → Holds (λ v. bit m v || p v (thing i)) m'
      → Holds (λ v. any_of (p v) (rows_in thing 0 (i + 1))) m'
  rows_turn i m m' h g v =
      let z : 0 + i ≡ i = omega arith in
      g v
      ∙ ap (λ (t : Bool). t || p v (thing i)) (h v)
      ∙ sym (any_last (p v) (rows_in thing 0 i) (thing i))
      ∙ ap (any_of (p v)) (ap (λ (k : ℕ). rows_in thing 0 i ++ (thing k ∷ [])) (sym z) ∙ sym (rows_more thing 0 i))

-- the variables of one test more
module _ (w : List ℕ) (o : ℕ) where
  pub no_test : Holds (stands_in (tests_in w o 0)) 0
  no_test = rows_start (λ v t. any_of (λ n. is_variable v n.term) t.named) (λ k. test_in w (o + 11 * k))

  pub one_test : (i m m' : ℕ) → Holds (stands_in (tests_in w o i)) m → Holds (λ v. bit m v || stands_at w (o + 11 * i) v) m' → Holds (stands_in (tests_in w o (i + 1))) m'
  one_test = rows_turn (λ v t. any_of (λ n. is_variable v n.term) t.named) (λ k. test_in w (o + 11 * k))

-- the buffer of one word more
module _ (w : List ℕ) (o step : ℕ) where
  pub no_buffer : Holds (names_buffer w o step 0) 0
  no_buffer = rows_start (λ b x. eqb x b) (λ k. get_or w (o + step * k) 0 % 8)

  pub one_buffer : (i m : ℕ) → Holds (names_buffer w o step i) m → Holds (names_buffer w o step (i + 1)) (bit_or m (1 * 2 ^ (get_or w (o + step * i) 0 % 8) % 65536))
  one_buffer i m h =
      let word : ℕ = get_or w (o + step * i) 0 % 8 in
      rows_turn (λ b x. eqb x b) (λ k. get_or w (o + step * k) 0 % 8) i m _ h
      (λ b. one_more m word (omega arith) b ∙ ap (λ (t : Bool). bit m b || t) (eqb_swap b word))

-- ---- the buffers of tests and of queries, by their words

any-on : {A B : Type 0} (p : B → Bool) (on : A → B) (thing : ℕ → A) (i n : ℕ) → any_of p (rows_in (λ k. on (thing k)) i n) ≡ any_of (λ x. p (on x)) (rows_in thing i n)
unfolding rows_in
any-on p on thing i zero = refl
any-on p on thing i (suc n) = ap (λ (t : Bool). p (on (thing i)) || t) (any-on p on thing (i + 1) n)

module _ (w : List ℕ) (o n b : ℕ) where
  tests-on : names_buffer w o 11 n b ≡ is_tested (tests_in w o n) b
  tests-on = any-on (λ x. eqb x b) (λ t. t.buffer) (λ k. test_in w (o + 11 * k)) 0 n

  queries-on : names_buffer w o 1 n b ≡ is_queried (queries_in w o n) b
  queries-on =
      let word : (k : ℕ) → get_or w (o + 1 * k) 0 % 8 ≡ get_or w (o + k) 0 % 8 = λ k. let e : o + 1 * k ≡ o + k = omega arith in rw e in
      ap (any_of (λ x. eqb x b)) (rows_same (λ k. get_or w (o + 1 * k) 0 % 8) (λ k. get_or w (o + k) 0 % 8) 0 n (λ k low high. word k))
      ∙ any-on (λ x. eqb x b) (λ q. q.buffer) (λ k. query_by (get_or w (o + k) 0)) 0 n

-- both masks together
pub both_hold : (w : List ℕ) (o n tested queried : ℕ) → Holds (names_buffer w o 11 n) tested → Holds (names_buffer w (o + 89) 1 (get_or w (o + 88) 0)) queried
    → Holds (λ b. is_tested (tests_in w o n) b || is_queried (queries_at w o) b) (bit_or tested queried)
both_hold w o n tested queried h g b =
    bit-or tested queried b ∙ ap₂ (λ (x y : Bool). x || y) (h b ∙ tests-on w o n b) (g b ∙ queries-on w (o + 89) (get_or w (o + 88) 0) b)

-- whether the mask has every number below k, as the machine tests it
pub holds_every : (m k : ℕ) (p : ℕ → Bool) → k ≤ 8 → Holds p m → eqb (bit_and m (1 * 2 ^ k % 65536 - 1)) (1 * 2 ^ k % 65536 - 1) ≡ every p (up_from 0 k)
holds_every m k p h g = rw (one_is k h) (ap (λ (n : ℕ). eqb n (2 ^ k - 1)) (and_mask m k) ∙ ones-all k m ∙ ap (λ (f : ℕ → Bool). every f (up_from 0 k)) (fun_ext g))
