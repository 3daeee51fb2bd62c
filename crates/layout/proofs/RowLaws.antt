-- Laws of rows in words: one more, the same words say the same thing wherever they stand, what stands below a place is kept.
use Prim.Native.Nat.{ℕ, zero, suc, ◌+◌, ◌-◌, ◌*◌, ◌%◌, ◌≤◌, ◌<◌}
use mathlib.Core.Path.{◌≡◌, refl, sym, ap, ap₂, ◌∙◌, fun_ext}
use mathlib.Core.Bool.{Bool, true, false}
use mathlib.Core.List.{List, [], ◌∷◌, ◌++◌, map}
use native.Mathlib.Omega.{arith}
use lib.ListN.{length, get_or, take, drop}
use lib.Seq.{sets, get_or-drop}
use Rattle.meaning.specs.Base.{keep, admit, up_from}
use Rattle.meaning.specs.Model.{Named, Test, Deed, Action, Fact, Chunk, Rule}
use Rattle.meaning.specs.Image.{names, slots_in}
use Rattle.layout.specs.Rows.{rows_in, word_term, named_at, named_by, named_in, masked_in, fact_in, test_in, deed_of, action_in, tests_in, actions_in, rule_in, rules_in}
use Rattle.layout.proofs.WordLaws.{sets-at, sets-take, below_get}

-- ---- rows of any kind

module _ {A : Type 0} where
  pub rows_more : (f : ℕ → A) (i n : ℕ) → rows_in f i (n + 1) ≡ rows_in f i n ++ (f (i + n) ∷ [])
  unfolding rows_in
  rows_more f i zero = let e : i + 0 ≡ i = omega arith in rw e
  rows_more f i (suc n) =
      let e : suc n + 1 ≡ suc (n + 1) = omega arith in
      let g : i + suc n ≡ i + 1 + n = omega arith in
      rw (e, g) (ap (λ (l : List A). f i ∷ l) (rows_more f (i + 1) n))

  pub rows_same : (f g : ℕ → A) (i n : ℕ) → ((k : ℕ) → i ≤ k → k < i + n → f k ≡ g k) → rows_in f i n ≡ rows_in g i n
  unfolding rows_in
  rows_same f g i zero h = refl
  rows_same f g i (suc n) h =
      ap₂ (λ (x : A) (l : List A). x ∷ l) (h i (omega arith) (omega arith)) (rows_same f g (i + 1) n (λ k a b. h k (omega arith) (omega arith)))

  -- the rows that are left at i, in a loop that counts i up to n
  pub rows_left : (f : ℕ → A) (i n : ℕ) → i < n → (m : ℕ) → m + i ≡ n → rows_in f i m ≡ f i ∷ rows_in f (i + 1) (n - (i + 1))
  unfolding rows_in
  rows_left f i n h m e = let g : m ≡ suc (n - (i + 1)) = omega arith in rw g

  pub rows-length : (f : ℕ → A) (i n : ℕ) → length (rows_in f i n) ≡ n
  unfolding rows_in
  rows-length f i zero = refl
  rows-length f i (suc n) = ap suc (rows-length f (i + 1) n)

  pub rows_get : (f : ℕ → A) (i n k : ℕ) (d : A) → k < n → get_or (rows_in f i n) k d ≡ f (i + k)
  unfolding rows_in
  rows_get f i zero k d h = absurd (omega arith)
  rows_get f i (suc n) zero d h = let e : i + 0 ≡ i = omega arith in rw e
  rows_get f i (suc n) (suc k) d h = rows_get f (i + 1) n k d (omega arith) ∙ ap f (omega arith)

-- ---- eleven words that are alike, wherever they stand

abbrev pub Alike : List ℕ → ℕ → List ℕ → ℕ → Type 0
Alike w o w' o' = (j : ℕ) → j < 11 → get_or w (o + j) 0 ≡ get_or w' (o' + j) 0

map_below : {A : Type 0} (f g : ℕ → A) (p : ℕ → Bool) (i n : ℕ) → ((j : ℕ) → j < i + n → f j ≡ g j) → map f (keep p (up_from i n)) ≡ map g (keep p (up_from i n))
map_below f g p i zero h = refl
map_below {A} f g p i (suc n) h =
    elim (p i) as (λ u. map f (admit u i (keep p (up_from (i + 1) n))) ≡ map g (admit u i (keep p (up_from (i + 1) n)))) [
      | true ↦ ap₂ (λ (y : A) (r : List A). y ∷ r) (h i (omega arith)) (map_below f g p (i + 1) n (λ j l. h j (omega arith)))
      | false ↦ map_below f g p (i + 1) n (λ j l. h j (omega arith))
    ]

pub map-up_from : {A : Type 0} (f g : ℕ → A) (i n : ℕ) → ((j : ℕ) → j < i + n → f j ≡ g j) → map f (up_from i n) ≡ map g (up_from i n)
map-up_from f g i zero h = refl
map-up_from {A} f g i (suc n) h = ap₂ (λ (y : A) (r : List A). y ∷ r) (h i (omega arith)) (map-up_from f g (i + 1) n (λ j l. h j (omega arith)))

module _ (w w' : List ℕ) (o o' : ℕ) (h : Alike w o w' o') where
  first-like : get_or w o 0 ≡ get_or w' o' 0
  first-like =
      let z : o + 0 ≡ o = omega arith in
      let z' : o' + 0 ≡ o' = omega arith in
      ap (λ (n : ℕ). get_or w n 0) (sym z) ∙ h 0 (omega arith) ∙ ap (λ (n : ℕ). get_or w' n 0) z'

  slot-like : (j : ℕ) → j < 8 → get_or w (o + 3 + j) 0 ≡ get_or w' (o' + 3 + j) 0
  slot-like j l =
      let g : o + 3 + j ≡ o + (3 + j) = omega arith in
      let g' : o' + 3 + j ≡ o' + (3 + j) = omega arith in
      ap (λ (n : ℕ). get_or w n 0) g ∙ h (3 + j) (omega arith) ∙ ap (λ (n : ℕ). get_or w' n 0) (sym g')

  masked-like : masked_in w o ≡ masked_in w' o'
  unfolding slots_in
  masked-like =
      rw (h 2 (omega arith))
      (map_below (named_in w o) (named_in w' o') (names (get_or w' (o' + 2) 0)) 0 8 (λ j l. ap (λ (n : ℕ). record { slot = j; term = word_term n }) (slot-like j l)))

  pub fact-like : fact_in w o ≡ fact_in w' o'
  fact-like =
      rw (first-like, h 1 (omega arith), h 2 (omega arith))
      (ap (λ (l : List ℕ). record { chunk = record { isa = get_or w' o' 0; slots = l }; activation = get_or w' (o' + 1) 0; latency = get_or w' (o' + 2) 0 })
      (map-up_from (λ b. get_or w (o + 3 + b) 0) (λ b. get_or w' (o' + 3 + b) 0) 0 8 slot-like))

  pub test-like : test_in w o ≡ test_in w' o'
  test-like =
      ap₂ (λ (x : ℕ) (k : ℕ). record { buffer = x % 8; isa = k; named = masked_in w o }) first-like (h 1 (omega arith))
      ∙ ap (λ (l : List Named). record { buffer = get_or w' o' 0 % 8; isa = get_or w' (o' + 1) 0; named = l }) masked-like

  pub action-like : action_in w o ≡ action_in w' o'
  action-like =
      ap₂ (λ (x : ℕ) (k : ℕ). record { buffer = x % 8; deed = deed_of k (masked_in w o) }) first-like (h 1 (omega arith))
      ∙ ap (λ (l : List Named). record { buffer = get_or w' o' 0 % 8; deed = deed_of (get_or w' (o' + 1) 0) l }) masked-like

-- the mask and the terms of a row that stands by itself
pub masked_row : (x y m : ℕ) (xs : List ℕ) → masked_in (x ∷ y ∷ m ∷ xs) 0 ≡ named_by m xs
masked_row x y m xs =
    let row : List ℕ = x ∷ y ∷ m ∷ xs in
    let at : (j : ℕ) → named_in row 0 j ≡ named_at xs j = λ j. let g : 0 + 3 + j ≡ suc (suc (suc j)) = omega arith in ap (λ (n : ℕ). record { slot = j; term = word_term (get_or row n 0) }) g in
    ap (λ (f : ℕ → Named). map f (slots_in m)) (fun_ext at)

-- a row that was just written says what it says by itself
pub written-like : (w : List ℕ) (q : ℕ) (ws : List ℕ) → length ws ≡ 11 → q + 11 ≤ length w → Alike (sets w q ws) q ws 0
written-like w q ws e h j l = let z : 0 + j ≡ j = omega arith in rw z (sets-at w q ws j (omega arith) (omega arith))

-- ---- what stands below a place says the same after words were written from there on

module _ {A : Type 0} (thing : List ℕ → ℕ → A) (like : (w w' : List ℕ) (o o' : ℕ) → Alike w o w' o' → thing w o ≡ thing w' o') where
  pub in-same : (w w' : List ℕ) (o n : ℕ) → ((j : ℕ) → j < o + 11 * n → get_or w j 0 ≡ get_or w' j 0)
      → rows_in (λ k. thing w (o + 11 * k)) 0 n ≡ rows_in (λ k. thing w' (o + 11 * k)) 0 n
  in-same w w' o n h =
      rows_same (λ k. thing w (o + 11 * k)) (λ k. thing w' (o + 11 * k)) 0 n (λ k a b. like w w' (o + 11 * k) (o + 11 * k) (λ j l. h (o + 11 * k + j) (omega arith)))

  -- rows of what is left after o words are rows of the whole, o words further on
  pub in-drop : (w : List ℕ) (o q r n : ℕ) → o + q ≡ r → rows_in (λ k. thing (drop o w) (q + 11 * k)) 0 n ≡ rows_in (λ k. thing w (r + 11 * k)) 0 n
  in-drop w o q r n e =
      rows_same (λ k. thing (drop o w) (q + 11 * k)) (λ k. thing w (r + 11 * k)) 0 n
      (λ k a b. like (drop o w) w (q + 11 * k) (r + 11 * k) (λ j l. let s : o + (q + 11 * k + j) ≡ r + 11 * k + j = omega arith in rw (get_or-drop, s)))

  -- one row more stands after i rows that stayed
  pub in-next : (w w' : List ℕ) (o i : ℕ) → take (o + 11 * i) w' ≡ take (o + 11 * i) w
      → rows_in (λ k. thing w' (o + 11 * k)) 0 (i + 1) ≡ rows_in (λ k. thing w (o + 11 * k)) 0 i ++ (thing w' (o + 11 * i) ∷ [])
  in-next w w' o i e =
      let z : 0 + i ≡ i = omega arith in
      rows_more (λ k. thing w' (o + 11 * k)) 0 i
      ∙ ap₂ (λ (l : List A) (x : A). l ++ (x ∷ [])) (in-same w' w o i (below_get (o + 11 * i) w w' e)) (ap (λ (k : ℕ). thing w' (o + 11 * k)) z)

  -- one row more is written after i rows
  pub in-more : (w : List ℕ) (o i : ℕ) (ws : List ℕ) → length ws ≡ 11 → o + 11 * i + 11 ≤ length w
      → let w' = sets w (o + 11 * i) ws in rows_in (λ k. thing w' (o + 11 * k)) 0 (i + 1) ≡ rows_in (λ k. thing w (o + 11 * k)) 0 i ++ (thing ws 0 ∷ [])
  in-more w o i ws e h =
      let q : ℕ = o + 11 * i in
      in-next w (sets w q ws) o i (sets-take q w q ws (omega arith))
      ∙ ap (λ (x : A). rows_in (λ k. thing w (o + 11 * k)) 0 i ++ (x ∷ [])) (like (sets w q ws) ws q 0 (written-like w q ws e h))
