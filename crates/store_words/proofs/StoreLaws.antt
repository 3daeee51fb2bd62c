-- Laws of the words of a store, by the definitions alone: its places one after the other, and what is left in it.
use Prim.Native.Nat.{ℕ, zero, suc, ◌+◌, ◌*◌, ◌≤◌}
use mathlib.Core.Path.{◌≡◌, refl, sym, ap, ap₂, ◌∙◌}
use mathlib.Core.List.{List, [], ◌∷◌, ◌++◌, append_assoc, map}
use mathlib.Core.Option.{some}
use mathlib.Core.Bool.{true}
use native.Mathlib.Omega.{arith}
use lib.Dec.{eqb}
use lib.ListN.{length, get_or, set, take, drop, length-append, length-drop, take-append-drop}
use lib.Seq.{sets, sets-eq, drop-cons, length-take-le, take-add, drop-drop, take_at, drop_at, get_or_at}
use borrow.Author.Tests.{eqb-true}
use Rattle.meaning.specs.Base.{every, up_from}
use Rattle.meaning.specs.Model.{Chunk}
use Rattle.meaning.specs.Store.{place_in, place_words, places_words, store_in, store_left}
use Rattle.laws.specs.BaseLaws.{and_left, and_right}

-- ---- words one after the other

-- as they are read one by one
pub words_up : (w : List ℕ) (q n : ℕ) → q + n ≤ length w → map (λ j. get_or w j 0) (up_from q n) ≡ take n (drop q w)
words_up w q zero h = refl
words_up w q (suc n) h =
    let e : q + 1 ≡ suc q = omega arith in
    rw (drop-cons w q 0 (omega arith), e) (ap (λ (l : List ℕ). get_or w q 0 ∷ l) (words_up w (suc q) n (omega arith)))

-- numbers from o on
up-shift : (f : ℕ → ℕ) (o i n : ℕ) → map (λ b. f (o + b)) (up_from i n) ≡ map f (up_from (o + i) n)
up-shift f o i zero = refl
up-shift f o i (suc n) =
    let e : o + (i + 1) ≡ o + i + 1 = omega arith in
    ap (λ (l : List ℕ). f (o + i) ∷ l) (up-shift f o (i + 1) n ∙ ap (λ (j : ℕ). map f (up_from j n)) e)

-- eight slots that stand from o on
pub slots-there : (w : List ℕ) (o : ℕ) → o + 8 ≤ length w → map (λ b. get_or w (o + b) 0) (up_from 0 8) ≡ take 8 (drop o w)
slots-there w o h =
    let z : o + 0 ≡ o = omega arith in
    up-shift (λ j. get_or w j 0) o 0 8 ∙ ap (λ (j : ℕ). map (λ j. get_or w j 0) (up_from j 8)) z ∙ words_up w o 8 h

-- ---- words that are written

-- one part after the other
pub sets-join : (w : List ℕ) (q : ℕ) (xs ys : List ℕ) → sets w q (xs ++ ys) ≡ sets (sets w q xs) (q + length xs) ys
sets-join w q [] ys = let e : q + 0 ≡ q = omega arith in rw e
sets-join w q (x ∷ xs) ys = let e : q + suc (length xs) ≡ suc q + length xs = omega arith in rw e (sets-join (set w q x) (suc q) xs ys)

-- where they stand already
pub sets-there : (w : List ℕ) (q n : ℕ) → q + n ≤ length w → sets w q (take n (drop q w)) ≡ w
sets-there w q n h =
    let long : length (take n (drop q w)) ≡ n = length-take-le n (drop q w) (omega (arith, length-drop q w)) in
    sets-eq (take n (drop q w)) w q (omega arith)
    ∙ append_assoc (take q w) (take n (drop q w)) (drop (q + length (take n (drop q w))) w)
    ∙ ap (λ (m : ℕ). take q w ++ (take n (drop q w) ++ drop (q + m) w)) long
    ∙ ap (λ (l : List ℕ). take q w ++ (take n (drop q w) ++ l)) (sym (drop-drop n q w))
    ∙ ap (λ (l : List ℕ). take q w ++ l) (take-append-drop n (drop q w)) ∙ take-append-drop q w

-- ---- places one after the other

-- the nine words of a place
pub place-there : (w : List ℕ) (i : ℕ) → 9 * i + 10 ≤ length w → place_words (place_in w i) ≡ take 9 (drop (9 * i + 1) w)
place-there w i h =
    let e : 9 * i + 2 ≡ suc (9 * i + 1) = omega arith in
    ap (λ (l : List ℕ). get_or w (9 * i + 1) 0 ∷ l) (slots-there w (9 * i + 2) (omega arith) ∙ ap (λ (k : ℕ). take 8 (drop k w)) e)
    ∙ ap (take 9) (sym (drop-cons w (9 * i + 1) 0 (omega arith)))

-- n places from place i on
pub places-there : (w : List ℕ) (i n : ℕ) → 9 * (i + n) + 1 ≤ length w → places_words (map (place_in w) (up_from i n)) ≡ take (9 * n) (drop (9 * i + 1) w)
unfolding places_words
places-there w i zero h = refl
places-there w i (suc n) h =
    let e : 9 * suc n ≡ 9 + 9 * n = omega arith in
    let g : 9 * (i + 1) + 1 ≡ 9 * i + 1 + 9 = omega arith in
    ap₂ (λ (a b : List ℕ). a ++ b) (place-there w i (omega arith)) (places-there w (i + 1) n (omega arith))
    ∙ ap (λ (k : ℕ). take 9 (drop (9 * i + 1) w) ++ take (9 * n) (drop k w)) g
    ∙ ap (λ (l : List ℕ). take 9 (drop (9 * i + 1) w) ++ take (9 * n) l) (sym (drop-drop 9 (9 * i + 1) w))
    ∙ sym (take-add 9 (9 * n) (drop (9 * i + 1) w)) ∙ ap (λ (k : ℕ). take k (drop (9 * i + 1) w)) (sym e)

pub places-join : (cs ds : List Chunk) → places_words (cs ++ ds) ≡ places_words cs ++ places_words ds
unfolding places_words
places-join [] ds = refl
places-join (c ∷ cs) ds = ap (λ (l : List ℕ). place_words c ++ l) (places-join cs ds) ∙ sym (append_assoc (place_words c) (places_words cs) (places_words ds))

-- ---- a store

many-up : {A : Type 0} (f : ℕ → A) (i n : ℕ) → length (map f (up_from i n)) ≡ n
many-up f i zero = refl
many-up f i (suc n) = ap suc (many-up f (i + 1) n)

pub store_length : (w : List ℕ) → length (store_in w) ≡ get_or w 0 0
unfolding store_in
store_length w = many-up (place_in w) 0 (get_or w 0 0)

-- the words of the places below the count
pub store_words : (w : List ℕ) → 9 * get_or w 0 0 + 1 ≤ length w → places_words (store_in w) ≡ take (9 * get_or w 0 0) (drop 1 w)
unfolding store_in
store_words w h = places-there w 0 (get_or w 0 0) (omega arith)

-- a store that is left with the chunks that it had is as it was
pub store_same : (w : List ℕ) → 9 * get_or w 0 0 + 1 ≤ length w → store_left w (some (store_in w)) ≡ w
unfolding store_left
store_same [] h = absurd (omega arith)
store_same (x ∷ w) h =
    let e : 9 * x + 1 ≡ suc (9 * x) = omega arith in
    ap₂ (λ (n : ℕ) (l : List ℕ). (n ∷ l) ++ drop (9 * n + 1) (x ∷ w)) (store_length (x ∷ w)) (store_words (x ∷ w) h)
    ∙ ap (λ (k : ℕ). (x ∷ take (9 * x) w) ++ drop k (x ∷ w)) e ∙ ap (λ (l : List ℕ). x ∷ l) (take-append-drop (9 * x) w)

-- ---- what is left in a store

-- what is left in a store: the count is written, and then the places
pub left-sets : (w : List ℕ) (cs : List Chunk) → length (places_words cs) ≡ 9 * length cs → 9 * length cs + 1 ≤ length w
    → store_left w (some cs) ≡ sets (set w 0 (length cs)) 1 (places_words cs)
unfolding store_left
left-sets [] cs e h = absurd (omega arith)
left-sets (x ∷ w) cs e h =
    let g : 9 * length cs + 1 ≡ suc (length (places_words cs)) = omega arith in
    let k : 1 + length (places_words cs) ≡ suc (length (places_words cs)) = omega arith in
    sym (
    sets-eq (places_words cs) (length cs ∷ w) 1 (omega arith)
    ∙ ap (λ (k : ℕ). (length cs ∷ places_words cs) ++ drop k (length cs ∷ w)) k
    ∙ ap (λ (k : ℕ). (length cs ∷ places_words cs) ++ drop k (x ∷ w)) (sym g)
    )

-- chunks of eight slots, as every fact and every place has them
abbrev pub Eights : List Chunk → Type 0
Eights cs = every (λ (c : Chunk). eqb (length c.slots) 8) cs ≡ true

module _ (c : Chunk) (cs : List Chunk) (e : Eights (c ∷ cs)) where
  eight : length c.slots ≡ 8
  eight = eqb-true (length c.slots) 8 (and_left (eqb (length c.slots) 8) (every (λ (c : Chunk). eqb (length c.slots) 8) cs) e)

  eights : Eights cs
  eights = and_right (eqb (length c.slots) 8) (every (λ (c : Chunk). eqb (length c.slots) 8) cs) e

pub eights-long : (cs : List Chunk) → Eights cs → length (places_words cs) ≡ 9 * length cs
unfolding places_words
eights-long [] e = refl
eights-long (c ∷ cs) e = omega (arith, length-append c.slots (places_words cs), eight c cs e, eights-long cs (eights c cs e))

-- chunks laid after i places are read back
read-from : (ps rest : List ℕ) (cs : List Chunk) (i : ℕ) → length ps ≡ 9 * i + 1 → Eights cs
    → map (place_in (ps ++ (places_words cs ++ rest))) (up_from i (length cs)) ≡ cs
unfolding places_words
read-from ps rest [] i n e = refl
read-from ps rest (c ∷ cs) i n e =
    let more : List ℕ = places_words cs ++ rest in
    let w : List ℕ = ps ++ ((place_words c ++ places_words cs) ++ rest) in
    let apart : w ≡ ps ++ (place_words c ++ more) = ap (λ (l : List ℕ). ps ++ l) (append_assoc (place_words c) (places_words cs) rest) in
    let first : w ≡ (ps ++ (c.isa ∷ [])) ++ (c.slots ++ more) = apart ∙ sym (append_assoc ps (c.isa ∷ []) (c.slots ++ more)) in
    let next : w ≡ (ps ++ place_words c) ++ more = apart ∙ sym (append_assoc ps (place_words c) more) in
    let many : length (ps ++ (c.isa ∷ [])) ≡ 9 * i + 2 = omega (arith, length-append ps (c.isa ∷ [])) in
    let on : length (ps ++ place_words c) ≡ 9 * (i + 1) + 1 = omega (arith, length-append ps (place_words c), eight c cs e) in
    let long : 9 * i + 2 + 8 ≤ length w =
    omega (arith, ap length first, length-append (ps ++ (c.isa ∷ [])) (c.slots ++ more), length-append c.slots more, eight c cs e) in
    let slots : map (λ b. get_or w (9 * i + 2 + b) 0) (up_from 0 8) ≡ c.slots =
    slots-there w (9 * i + 2) long ∙ ap (λ (l : List ℕ). take 8 (drop (9 * i + 2) l)) first
    ∙ ap (take 8) (drop_at (ps ++ (c.isa ∷ [])) (c.slots ++ more) (9 * i + 2) many) ∙ take_at c.slots more 8 (eight c cs e) in
    let isa : get_or w (9 * i + 1) 0 ≡ c.isa = ap (λ (l : List ℕ). get_or l (9 * i + 1) 0) apart ∙ get_or_at ps c.isa (c.slots ++ more) 0 (9 * i + 1) n in
    ap₂ (λ (d : Chunk) (ds : List Chunk). d ∷ ds)
    (ap₂ (λ (t : ℕ) (xs : List ℕ). record { isa = t; slots = xs }) isa slots)
    (ap (λ (l : List ℕ). map (place_in l) (up_from (i + 1) (length cs))) next ∙ read-from (ps ++ place_words c) rest cs (i + 1) on (eights c cs e))

module _ (w : List ℕ) (cs : List Chunk) (e : Eights cs) where
  -- what is left is what is read next
  pub left-read : store_in (store_left w (some cs)) ≡ cs
  unfolding store_in store_left
  left-read = read-from (length cs ∷ []) (drop (9 * length cs + 1) w) cs 0 refl e

  -- the places past it are as they were
  pub left-past : drop (9 * length cs + 1) (store_left w (some cs)) ≡ drop (9 * length cs + 1) w
  unfolding store_left
  left-past = drop_at (length cs ∷ places_words cs) (drop (9 * length cs + 1) w) (9 * length cs + 1) (omega (arith, eights-long cs e))

  -- and so is the length
  pub left-length : 9 * length cs + 1 ≤ length w → length (store_left w (some cs)) ≡ length w
  unfolding store_left
  left-length h =
      omega (arith, length-append (places_words cs) (drop (9 * length cs + 1) w), eights-long cs e, length-drop (9 * length cs + 1) w)

-- the chunks of a store are of eight slots
pub store-eights : (w : List ℕ) → Eights (store_in w)
unfolding store_in
store-eights w = go 0 (get_or w 0 0)
  where
    go : (i n : ℕ) → Eights (map (place_in w) (up_from i n))
    go i zero = refl
    go i (suc n) = go (i + 1) n
