-- Laws of words written one after the other.
use Prim.Native.Nat.{ℕ, zero, suc, ◌+◌, ◌-◌, ◌≤◌, ◌<◌}
use mathlib.Core.Path.{◌≡◌, refl, sym, ap, ◌∙◌}
use mathlib.Core.List.{List, [], ◌∷◌, ◌++◌, append-nil, append_assoc}
use native.Mathlib.Omega.{arith}
use native.Mathlib.Numerals.{add-one}
use lib.ListN.{length, get_or, set, take, drop, length-set, length-drop, drop_of_length-le}
use lib.Seq.{sets, drop-cons, get_or-set_same, get_or-set_other, get_or-take, take-set-le, drop-set-lt, take_at, drop_at, length-take-le, sets-eq}
use borrow.Rule.Slice.PartMut.{Post-is}

-- what is written from q on leaves what stands below
pub sets_below : (w : List ℕ) (q : ℕ) (ws : List ℕ) (j : ℕ) → j < q → get_or (sets w q ws) j 0 ≡ get_or w j 0
sets_below w q [] j h = refl
sets_below w q (x ∷ ws) j h =
    let ne : (j ≡ q → ⊥) = λ e. omega arith in
    sets_below (set w q x) (suc q) ws j (omega arith) ∙ get_or-set_other w q j x 0 ne

-- and stands there
pub sets-at : (w : List ℕ) (q : ℕ) (ws : List ℕ) (j : ℕ) → j < length ws → q + length ws ≤ length w → get_or (sets w q ws) (q + j) 0 ≡ get_or ws j 0
sets-at w q [] j h g = absurd (omega arith)
sets-at w q (x ∷ ws) zero h g =
    let e : q + 0 ≡ q = omega arith in
    rw e (sets_below (set w q x) (suc q) ws q (omega arith) ∙ get_or-set_same w q x 0 (omega arith))
sets-at w q (x ∷ ws) (suc j) h g =
    let e : q + suc j ≡ suc q + j = omega arith in
    rw e (sets-at (set w q x) (suc q) ws j (omega arith) (omega (arith, length-set w q x)))

pub sets-take : (o : ℕ) (w : List ℕ) (q : ℕ) (ws : List ℕ) → o ≤ q → take o (sets w q ws) ≡ take o w
sets-take o w q [] h = refl
sets-take o w q (x ∷ ws) h = sets-take o (set w q x) (suc q) ws (omega arith) ∙ take-set-le o w q x h

-- and what stands after it
pub sets-drop : (o : ℕ) (w : List ℕ) (q : ℕ) (ws : List ℕ) → q + length ws ≤ o → drop o (sets w q ws) ≡ drop o w
sets-drop o w q [] h = refl
sets-drop o w q (x ∷ ws) h = sets-drop o (set w q x) (suc q) ws (omega arith) ∙ drop-set-lt o w q x (omega arith)

-- a list whose words from o on were lent to the end and came back as others: it has them there, and below o its own
module _ (o : ℕ) (w own : List ℕ) where
  pub part-put : take o w ++ (own ++ drop (length w - o) (drop o w)) ≡ take o w ++ own
  part-put =
      let none : drop (length w - o) (drop o w) ≡ [] = drop_of_length-le (drop o w) {i = length w - o} (omega (arith, length-drop o w)) in
      ap (λ (l : List ℕ). take o w ++ (own ++ l)) none ∙ ap (λ (l : List ℕ). take o w ++ l) (append-nil own)

  pub part-below : o ≤ length w → take o (take o w ++ own) ≡ take o w
  part-below h = take_at (take o w) own o (length-take-le o w h)

  pub part-own : o ≤ length w → drop o (take o w ++ own) ≡ own
  part-own h = drop_at (take o w) own o (length-take-le o w h)

-- a list of which n words from q on were lent, and came back as others: it is as if these had been written there
pub lent-sets : (q n : ℕ) (w own : List ℕ) → q + n ≤ length w → length own ≡ n → take q w ++ (own ++ drop (q + n - q) (drop q w)) ≡ sets w q own
lent-sets q n w own h e =
    let z : q + n ≡ q + length own = omega arith in
    ap (λ (l : List ℕ). take q w ++ (own ++ l)) (Post-is q (q + n) w (omega arith) ∙ ap (λ (k : ℕ). drop k w) z)
    ∙ sym (append_assoc (take q w) own (drop (q + length own) w)) ∙ sym (sets-eq own w q (omega arith))

-- words copied over all words
pub all-copied : (l m : List ℕ) → length l ≡ length m → sets l 0 m ≡ m
all-copied l m e =
    let none : drop (0 + length m) l ≡ [] = drop_of_length-le l {i = 0 + length m} (omega arith) in
    sets-eq m l 0 (omega arith) ∙ ap (λ (r : List ℕ). m ++ r) none ∙ append-nil m

-- two lists with the same beginning have the same words in it
pub below_get : (o : ℕ) (w w' : List ℕ) → take o w' ≡ take o w → (j : ℕ) → j < o → get_or w' j 0 ≡ get_or w j 0
below_get o w w' e j h = sym (get_or-take o w' j 0 h) ∙ ap (λ (l : List ℕ). get_or l j 0) e ∙ get_or-take o w j 0 h

-- ---- a list of a known length is its elements in a row

abbrev pub tab : ℕ → (ℕ → ℕ) → List ℕ
tab zero f = []
tab (suc n) f = f zero ∷ tab n (λ k. f (suc k))

pub listed : (n : ℕ) (l : List ℕ) → length l ≡ n → tab n (λ k. get_or l k 0) ≡ l
listed zero [] e = refl
listed zero (x ∷ l) e = absurd (omega arith)
listed (suc n) [] e = absurd (omega arith)
listed (suc n) (x ∷ l) e = ap (λ (t : List ℕ). x ∷ t) (listed n l (omega arith))
