-- Laws of the state's words: one more in a loop over them, and the words of a state that was laid into 88.
use Prim.Native.Nat.{ℕ, zero, suc, ◌+◌, ◌*◌, ◌≤◌}
use mathlib.Core.Path.{◌≡◌, refl, sym, ap, ◌∙◌}
use mathlib.Core.Bool.{Bool, true, false}
use Rattle.std.specs.Prelude.{if◌then◌else◌, Option, Some, None, unwrap_or}
use mathlib.Core.List.{List, [], ◌∷◌}
use native.Mathlib.Omega.{arith}
use lib.Dec.{leb, eqb}
use lib.ListN.{length, get_or, set, take, drop}
use lib.Seq.{take_all}
use Rattle.meaning.specs.declared.State.{State}
use Rattle.meaning.specs.Base.{every}
use Rattle.layout.specs.Rows.{rows_in}
use Rattle.layout.specs.StateWords.{buffers_in, state_in}
use Rattle.layout_state.specs.Words.{flag_word, Flags}
use Rattle.layout_state.proofs.LayLaws.{rows-list}
use Rattle.jirvuntsag.specs.Words.{state_of, buffers_words, words_of, narrows, flags_fit, fits, narrowed, held, unfit_state, given_by}

-- ---- a loop over the 88 words after the clock

-- what is left of the test is the whole of it
abbrev pub FitsFrom : List ℕ → ℕ → Type 0
FitsFrom w i = every (λ v. leb v 65535) (drop i (drop 1 w)) ≡ narrows w

module _ (w : List ℕ) (i : ℕ) (e : length w ≡ 89) where
  pub widen-end : (b : List ℕ) (x : ℕ) → 88 ≤ i → length b ≡ 88 → take (1 + i) w ≡ x ∷ take i b → w ≡ x ∷ b
  widen-end b x h l t = sym (take_all (1 + i) w (omega arith)) ∙ t ∙ ap (λ (xs : List ℕ). x ∷ xs) (take_all i b (omega arith))

pub widen-start : (w b : List ℕ) (x : ℕ) → length w ≡ 89 → take (1 + 0) (set w 0 x) ≡ x ∷ take 0 b
widen-start [] b x e = absurd (omega arith)
widen-start (y ∷ ys) b x e = refl

-- ---- 88 words are the words of the buffers in them, where each flag is 0 or 1

flag_is : (n : ℕ) → n ≤ 1 → flag_word (eqb n 1) ≡ n
flag_is zero h = refl
flag_is (suc zero) h = refl
flag_is (suc (suc n)) h = absurd (omega arith)

pub words-in : (b : List ℕ) → length b ≡ 88 → Flags b 8 → buffers_words (buffers_in b) ≡ b
unfolding rows_in
words-in b e f =
    rw (
      flag_is (get_or b (11 * 0 + 10) 0) (f 0 (omega arith)),
      flag_is (get_or b (11 * 1 + 10) 0) (f 1 (omega arith)),
      flag_is (get_or b (11 * 2 + 10) 0) (f 2 (omega arith)),
      flag_is (get_or b (11 * 3 + 10) 0) (f 3 (omega arith)),
      flag_is (get_or b (11 * 4 + 10) 0) (f 4 (omega arith)),
      flag_is (get_or b (11 * 5 + 10) 0) (f 5 (omega arith)),
      flag_is (get_or b (11 * 6 + 10) 0) (f 6 (omega arith)),
      flag_is (get_or b (11 * 7 + 10) 0) (f 7 (omega arith)),
    )
    (rows-list 88 b e)

pub words-laid : (s : State) (b : List ℕ) → length b ≡ 88 → Flags b 8 → buffers_in b ≡ s.buffers → s.clock ∷ b ≡ words_of s
unfolding words_of
words-laid s b e f l = ap (λ (xs : List ℕ). s.clock ∷ xs) (sym (words-in b e f) ∙ ap buffers_words l)

-- ---- the state that the words gave

module _ {A : Type 0} where
  some-if : (t : Bool) (x y : A) → Some y ≡ (if t then Some x else None) → (true ≡ t) × (y ≡ x)
  some-if true x y e = (refl, cc)
  some-if false x y e = absurd (cc)

-- both judgements of the words, the code's one after the other
module _ (w : List ℕ) where
  pub both-fit : (b : List ℕ) (s : State) → Some b ≡ narrowed w → flags_fit w ≡ true → s ≡ state_in b (get_or w 0 0) → Some s ≡ held w
  both-fit b s n f e =
      let both = some-if (narrows w) (drop 1 w) b n in
      rw (← both.0, f) (ap (λ (s : State). Some s) (e ∙ ap (λ (l : List ℕ). state_in l (get_or w 0 0)) both.1))

  -- what a call goes by, whether the words gave a state or not
  pub held-or : (o : Option State) → o ≡ held w → unwrap_or o unfit_state ≡ given_by w
  held-or o e = rw e (go (fits w))
    where
      go : (t : Bool) → unwrap_or (if t then Some (state_of w) else None) unfit_state ≡ (if t then state_of w else unfit_state)
      go true = refl
      go false = refl
