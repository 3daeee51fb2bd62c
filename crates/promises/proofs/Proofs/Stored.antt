-- The words of a store: what is left of them reads as the store, and the rest is as it was.
use Rattle.std.specs.Prelude.{◌≡◌, true, eqb}
use Rattle.std.proofs.Math.Path.{refl, ap}
use Rattle.std.proofs.Common.{sym, ap₂, ◌∙◌, eqb-true, ext_get_or}
use mathlib.Core.List.{List, [], ◌∷◌, ◌++◌, map, append_assoc}
use Rattle.std.proofs.Math.Option.{some}
use Prim.Native.Nat.{ℕ, zero, suc, ◌+◌, ◌-◌, ◌*◌, ◌/◌, ◌%◌, ◌≤◌, ◌<◌}
use native.Mathlib.Omega.{arith}
use Rattle.std.proofs.Math.ListN.{length, get_or, drop, length-append, length-drop, get_or-append}
use Rattle.std.proofs.lemmas.List.{get_or_at}
use Rattle.std.proofs.Math.Seq.{get_or-append-add, get_or-drop}
use Rattle.meaning.specs.Base.{every, up_from}
use Rattle.meaning.specs.Model.{Chunk}
use Rattle.meaning.specs.Store.{place_in, store_in, place_words, places_words, store_left}
use Rattle.laws.specs.BaseLaws.{and_left, and_right}

-- ---- reading lists

get_or-up : {A : Type 0} (f : ℕ → A) (i n b : ℕ) (d : A) → b < n → get_or (map f (up_from i n)) b d ≡ f (i + b)
get_or-up f i zero b d l = absurd (omega arith)
get_or-up f i (suc n) zero d l = ap f (omega arith)
get_or-up f i (suc n) (suc b) d l = get_or-up f (i + 1) n b d (omega arith) ∙ ap f (omega arith)

pub length_up : {A : Type 0} (f : ℕ → A) (i n : ℕ) → length (map f (up_from i n)) ≡ n
length_up f i zero = refl
length_up f i (suc n) = ap suc (length_up f (i + 1) n)

-- ---- nine words a place

abbrev pub Nines : List Chunk → Type 0
Nines cs = every (λ (c : Chunk). eqb (length c.slots) 8) cs ≡ true

nine-head : (c : Chunk) (cs : List Chunk) → Nines (c ∷ cs) → length c.slots ≡ 8
nine-head c cs e = eqb-true (length c.slots) 8 (and_left (eqb (length c.slots) 8) (every (λ (x : Chunk). eqb (length x.slots) 8) cs) e)

nine-tail : (c : Chunk) (cs : List Chunk) → Nines (c ∷ cs) → Nines cs
nine-tail c cs e = and_right (eqb (length c.slots) 8) (every (λ (x : Chunk). eqb (length x.slots) 8) cs) e

places-long : (cs : List Chunk) → Nines cs → length (places_words cs) ≡ 9 * length cs
unfolding places_words
places-long [] e = refl
places-long (c ∷ cs) e = length-append (place_words c) (places_words cs) ∙ omega (arith, nine-head c cs e, places-long cs (nine-tail c cs e))

-- a place reads back as its chunk
place-back : (pre : List ℕ) (c : Chunk) (rest : List ℕ) (i : ℕ) → length pre ≡ 9 * i + 1 → length c.slots ≡ 8 → place_in (pre ++ (place_words c ++ rest)) i ≡ c
place-back pre c rest i l e =
    let w : List ℕ = pre ++ (place_words c ++ rest) in
    let f : ℕ → ℕ = λ b. get_or w (9 * i + 2 + b) 0 in
    let head : get_or w (9 * i + 1) 0 ≡ c.isa = get_or_at pre c.isa (c.slots ++ rest) 0 (9 * i + 1) l in
    let slot : (b : ℕ) → b < length (map f (up_from 0 8)) → get_or (map f (up_from 0 8)) b 0 ≡ get_or c.slots b 0 = λ b h.
    let low : b < 8 = omega (arith, h, length_up f 0 8) in
    get_or-up f 0 8 b 0 low ∙ ap (λ (x : ℕ). get_or w x 0) (omega (arith, l)) ∙ get_or-append-add pre (place_words c ++ rest) (suc b) 0 ∙ get_or-append c.slots rest 0 b (omega arith) in
    ap₂ (λ (x : ℕ) (xs : List ℕ). record { isa = x; slots = xs }) head (ext_get_or 0 (map f (up_from 0 8)) c.slots (length_up f 0 8 ∙ sym e) slot)

places-back : (cs : List Chunk) (pre rest : List ℕ) (i : ℕ) → length pre ≡ 9 * i + 1 → Nines cs → map (place_in (pre ++ (places_words cs ++ rest))) (up_from i (length cs)) ≡ cs
unfolding places_words
places-back [] pre rest i l e = refl
places-back (c ∷ cs) pre rest i l e =
    let here : pre ++ ((place_words c ++ places_words cs) ++ rest) ≡ pre ++ (place_words c ++ (places_words cs ++ rest)) =
    ap (λ (x : List ℕ). pre ++ x) (append_assoc (place_words c) (places_words cs) rest) in
    let on : pre ++ ((place_words c ++ places_words cs) ++ rest) ≡ (pre ++ place_words c) ++ (places_words cs ++ rest) = here ∙ sym (append_assoc pre (place_words c) (places_words cs ++ rest)) in
    ap₂ (λ (x : Chunk) (xs : List Chunk). x ∷ xs) (ap (λ (w : List ℕ). place_in w i) here ∙ place-back pre c (places_words cs ++ rest) i l (nine-head c cs e))
    (ap (λ (w : List ℕ). map (place_in w) (up_from (i + 1) (length cs))) on
    ∙ places-back cs (pre ++ place_words c) rest (i + 1) (length-append pre (place_words c) ∙ omega (arith, l, nine-head c cs e)) (nine-tail c cs e))

-- ---- what is left of the words

module _ (words : List ℕ) (cs : List Chunk) (nine : Nines cs) where
  abbrev left : List ℕ
  left = store_left words (some cs)

  pub left-count : get_or left 0 0 ≡ length cs
  unfolding store_left
  left-count = refl

  pub left-reads : store_in left ≡ cs
  unfolding store_left store_in
  left-reads = places-back cs (length cs ∷ []) (drop (9 * length cs + 1) words) 0 refl nine

  pub left-long : 9 * length cs + 1 ≤ length words → length left ≡ length words
  unfolding store_left
  left-long l =
      length-append (length cs ∷ places_words cs) (drop (9 * length cs + 1) words) ∙ omega (arith, places-long cs nine, length-drop (9 * length cs + 1) words)

  pub left-past : (i : ℕ) → 9 * length cs < i → get_or left i 0 ≡ get_or words i 0
  unfolding store_left
  left-past i l =
      let front : List ℕ = length cs ∷ places_words cs in
      let d : ℕ = i - (9 * length cs + 1) in
      let long : length front ≡ 9 * length cs + 1 = omega (arith, places-long cs nine) in
      let at : i ≡ length front + d = omega (arith, long) in
      let from : 9 * length cs + 1 + d ≡ i = omega arith in
      ap (λ (x : ℕ). get_or (front ++ drop (9 * length cs + 1) words) x 0) at ∙ get_or-append-add front (drop (9 * length cs + 1) words) d 0
      ∙ get_or-drop (9 * length cs + 1) words d 0 ∙ ap (λ (x : ℕ). get_or words x 0) from

-- words that read alike up to a count are the same up to its places
module _ (words left : List ℕ) (n more : ℕ) (new : List Chunk) (alike : map (place_in left) (up_from 0 (n + more)) ≡ map (place_in words) (up_from 0 n) ++ new) where
  same_place : (j : ℕ) → j < n → place_in left j ≡ place_in words j
  same_place j l =
      let none : Chunk = place_in words 0 in
      sym (get_or-up (place_in left) 0 (n + more) j none (omega arith) ∙ ap (place_in left) (omega arith)) ∙ ap (λ (xs : List Chunk). get_or xs j none) alike
      ∙ get_or-append (map (place_in words) (up_from 0 n)) new none j (omega (arith, length_up (place_in words) 0 n)) ∙ get_or-up (place_in words) 0 n j none l ∙ ap (place_in words) (omega arith)

  same-slot : (j b : ℕ) → j < n → b < 8 → get_or left (9 * j + 2 + b) 0 ≡ get_or words (9 * j + 2 + b) 0
  same-slot j b l h =
      let f : ℕ → ℕ = λ x. get_or left (9 * j + 2 + x) 0 in
      let g : ℕ → ℕ = λ x. get_or words (9 * j + 2 + x) 0 in
      sym (get_or-up f 0 8 b 0 h ∙ ap f (omega arith)) ∙ ap (λ (c : Chunk). get_or c.slots b 0) (same_place j l) ∙ get_or-up g 0 8 b 0 h ∙ ap g (omega arith)

  pub same-words : (i : ℕ) → 0 < i → i ≤ 9 * n → get_or left i 0 ≡ get_or words i 0
  same-words i p l = by ((i - 1) % 9) refl
    where
      j : ℕ
      j = (i - 1) / 9

      by : (r : ℕ) → (i - 1) % 9 ≡ r → get_or left i 0 ≡ get_or words i 0
      by zero e =
          let q : i ≡ 9 * j + 1 = omega arith in
          rw q (ap (λ (c : Chunk). c.isa) (same_place j (omega arith)))
      by (suc b) e =
          let q : i ≡ 9 * j + 2 + b = omega arith in
          rw q (same-slot j b (omega arith) (omega arith))
