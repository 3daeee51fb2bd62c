-- Small words that the other files share: tests over lists, marks as numbers.
use Rattle.std.specs.Prelude.{if◌then◌else◌, Bool, true, false, ◌&&◌, ◌||◌, List, [], ◌∷◌, ℕ, zero, suc, ◌+◌, ◌*◌, ◌/◌, ◌%◌, eqb}

module _ {A : Type 0} where
  -- every element passes
  abbrev pub every : (A → Bool) → List A → Bool
  every p [] = true
  every p (x ∷ xs) = p x && every p xs

  -- some element passes
  abbrev pub any_of : (A → Bool) → List A → Bool
  any_of p [] = false
  any_of p (x ∷ xs) = p x || any_of p xs

  -- an element before a list, if it passed (named apart, so that `keep` names its tail once)
  abbrev pub admit : Bool → A → List A → List A
  admit true x xs = x ∷ xs
  admit false x xs = xs

  -- the elements that pass, in their order
  abbrev pub keep : (A → Bool) → List A → List A
  keep p [] = []
  keep p (x ∷ xs) = admit (p x) x (keep p xs)

-- i, i + 1 .. , n numbers in all
abbrev pub up_from : ℕ → ℕ → List ℕ
up_from i zero = []
up_from i (suc n) = i ∷ up_from (i + 1) n

-- two lists of words are the same
abbrev pub same : List ℕ → List ℕ → Bool
same [] [] = true
same [] (y ∷ ys) = false
same (x ∷ xs) [] = false
same (x ∷ xs) (y ∷ ys) = eqb x y && same xs ys

-- "buffer b has weight 2 to the power b": the number whose places are these
abbrev pub weigh : List Bool → ℕ
weigh [] = 0
weigh (b ∷ bs) = (if b then 1 else 0) + 2 * weigh bs

-- place b of a number
abbrev pub bit : ℕ → ℕ → Bool
bit m zero = eqb (m % 2) 1
bit m (suc b) = bit (m / 2) b
