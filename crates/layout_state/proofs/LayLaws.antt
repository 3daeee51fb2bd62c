-- Laws of a buffer laid into its eleven words.
use Prim.Native.Nat.{ℕ, suc, ◌+◌, ◌*◌, ◌≤◌, ◌<◌}
use mathlib.Core.Path.{◌≡◌, refl, sym, ap, ap₂, ◌∙◌}
use mathlib.Core.Bool.{Bool, true, false}
use mathlib.Core.List.{List, [], ◌∷◌, ◌++◌, append_assoc, map}
use native.Mathlib.Omega.{arith}
use native.Mathlib.Numerals.{add-one}
use lib.Dec.{eqb}
use lib.ListN.{length, get_or, set, take, length-append, length-map, get_or-append}
use lib.Seq.{sets, take-suc, ext_get_or, get_or_at, get_or-append-add}
use Rattle.meaning.specs.declared.Buffer.{Buffer}
use Rattle.meaning.specs.State.{nothing}
use Rattle.layout.specs.Rows.{rows_in}
use Rattle.layout.specs.StateWords.{buffer_in}
use Rattle.laws.specs.BaseLaws.{by-lt}
use Rattle.layout.proofs.WordLaws.{sets-at, sets-take, below_get}
use Rattle.layout.proofs.RowLaws.{rows_more, rows_same, rows_get, rows-length}
use Rattle.layout.proofs.StateLaws.{buffer-like}
use Rattle.layout_state.specs.Words.{flag_word, Flags}

-- one word more after others
pub sets_last : (w : List ℕ) (q : ℕ) (xs : List ℕ) (y : ℕ) → set (sets w q xs) (q + length xs) y ≡ sets w q (xs ++ (y ∷ []))
sets_last w q [] y = let e : q + 0 ≡ q = omega arith in rw e
sets_last w q (x ∷ xs) y = let e : q + suc (length xs) ≡ suc q + length xs = omega arith in rw e (sets_last (set w q x) (suc q) xs y)

-- a list is its elements in a row
pub rows-list : (n : ℕ) (l : List ℕ) → length l ≡ n → rows_in (λ j. get_or l j 0) 0 n ≡ l
rows-list n l e =
    let m : length (rows_in (λ j. get_or l j 0) 0 n) ≡ n = rows-length (λ j. get_or l j 0) 0 n in
    ext_get_or 0 (rows_in (λ j. get_or l j 0) 0 n) l (m ∙ sym e) (λ i h.
    let z : 0 + i ≡ i = omega arith in
    rows_get (λ j. get_or l j 0) 0 n i 0 (omega arith) ∙ ap (λ (j : ℕ). get_or l j 0) z)

-- type, eight slots, delay, flag
abbrev pub buffer_words : Buffer → List ℕ
buffer_words b = b.isa ∷ b.slots ++ (b.delay ∷ flag_word b.error ∷ [])

-- the word of a flag is 1 exactly if it is set
pub flag-back : (t : Bool) → eqb (flag_word t) 1 ≡ t
flag-back true = refl
flag-back false = refl

-- what was laid is read back
module _ (w : List ℕ) (k : ℕ) (b : Buffer) (e : length b.slots ≡ 8) (h : 11 * k + 11 ≤ length w) where
  word-laid : (j : ℕ) → j < 11 → get_or (sets w (11 * k) (buffer_words b)) (11 * k + j) 0 ≡ get_or (buffer_words b) j 0
  word-laid j l =
      let ten : length (b.slots ++ (b.delay ∷ flag_word b.error ∷ [])) ≡ 10 = omega (arith, length-append b.slots (b.delay ∷ flag_word b.error ∷ [])) in
      sets-at w (11 * k) (buffer_words b) j (omega arith) (omega arith)

  slots-laid : (buffer_in (sets w (11 * k) (buffer_words b)) k).slots ≡ b.slots
  slots-laid =
      let w' : List ℕ = sets w (11 * k) (buffer_words b) in
      rows_same (λ j. get_or w' (11 * k + 1 + j) 0) (λ j. get_or b.slots j 0) 0 8 (λ j x y.
      let g : 11 * k + 1 + j ≡ 11 * k + suc j = omega arith in
      ap (λ (n : ℕ). get_or w' n 0) g ∙ word-laid (suc j) (omega arith) ∙ get_or-append b.slots (b.delay ∷ flag_word b.error ∷ []) 0 j (omega arith))
      ∙ rows-list 8 b.slots e

  pub buffer-laid : buffer_in (sets w (11 * k) (buffer_words b)) k ≡ b
  buffer-laid =
      let w' : List ℕ = sets w (11 * k) (buffer_words b) in
      let z : 11 * k ≡ 11 * k + 0 = omega arith in
      let tail : List ℕ = b.delay ∷ flag_word b.error ∷ [] in
      let nine : 9 ≡ length b.slots + 1 = omega arith in
      let after-slots : get_or (b.slots ++ tail) 9 0 ≡ flag_word b.error = ap (λ (n : ℕ). get_or (b.slots ++ tail) n 0) nine ∙ get_or-append-add b.slots tail 1 0 in
      let first : get_or w' (11 * k) 0 ≡ b.isa = ap (λ (n : ℕ). get_or w' n 0) z ∙ word-laid 0 (omega arith) in
      let last : get_or w' (11 * k + 9) 0 ≡ b.delay = word-laid 9 (omega arith) ∙ get_or_at b.slots b.delay (flag_word b.error ∷ []) 0 8 e in
      let flag : get_or w' (11 * k + 10) 0 ≡ flag_word b.error = word-laid 10 (omega arith) ∙ after-slots in
      ap₂ (λ (x y : ℕ). record { isa = x; slots = (buffer_in w' k).slots; delay = y; error = eqb (get_or w' (11 * k + 10) 0) 1 }) first last
      ∙ ap₂ (λ (l : List ℕ) (t : Bool). record { isa = b.isa; slots = l; delay = b.delay; error = t }) slots-laid (ap (λ (n : ℕ). eqb n 1) flag ∙ flag-back b.error)

-- the type first, then the slots, then the delay, then the flag
pub lay_done : (w w' : List ℕ) (k : ℕ) (b : Buffer) (flag : ℕ) → flag ≡ flag_word b.error → length b.slots ≡ 8 → 11 * k + 11 ≤ length w
    → w' ≡ sets (set w (11 * k) b.isa) (11 * k + 1) b.slots
    → let w'' = set (set w' (11 * k + 9) b.delay) (11 * k + 10) flag in (buffer_in w'' k ≡ b) × (take (11 * k) w'' ≡ take (11 * k) w)
lay_done w w' k b flag f e h laid =
    let typed : List ℕ = set w (11 * k) b.isa in
    let n : 11 * k + 9 ≡ 11 * k + 1 + length b.slots = omega arith in
    let n' : 11 * k + 10 ≡ 11 * k + 1 + length (b.slots ++ (b.delay ∷ [])) = omega (arith, length-append b.slots (b.delay ∷ [])) in
    let delayed : set w' (11 * k + 9) b.delay ≡ sets typed (11 * k + 1) (b.slots ++ (b.delay ∷ [])) =
    ap₂ (λ (l : List ℕ) (j : ℕ). set l j b.delay) laid n ∙ sets_last typed (11 * k + 1) b.slots b.delay in
    let whole : set (set w' (11 * k + 9) b.delay) (11 * k + 10) flag ≡ sets w (11 * k) (buffer_words b) =
    ap₂ (λ (l : List ℕ) (j : ℕ). set l j flag) delayed n'
    ∙ sets_last typed (11 * k + 1) (b.slots ++ (b.delay ∷ [])) flag
    ∙ ap₂ (λ (j x : ℕ). sets typed j ((b.slots ++ (b.delay ∷ [])) ++ (x ∷ []))) (add-one (11 * k)) f
    ∙ ap (sets typed (suc (11 * k))) (append_assoc b.slots (b.delay ∷ []) (flag_word b.error ∷ [])) in
    (ap (λ (l : List ℕ). buffer_in l k) whole ∙ buffer-laid w k b e h, ap (take (11 * k)) whole ∙ sets-take (11 * k) w (11 * k) (buffer_words b) (omega arith))

-- the length of an array of structs is known of what its structs are mapped to
pub length-mapped : (A B : Type 0) (f : A → B) (l : List A) (n : ℕ) → length (map f l) ≡ n → length l ≡ n
length-mapped A B f l n e = sym (length-map l f) ∙ e

-- one buffer more, in a loop over the buffers of a state
pub lay-more : (w w' : List ℕ) (k : ℕ) (bs : List Buffer) → k < length bs → rows_in (buffer_in w) 0 k ≡ take k bs
    → buffer_in w' k ≡ get_or bs k nothing → take (11 * k) w' ≡ take (11 * k) w → rows_in (buffer_in w') 0 (k + 1) ≡ take (k + 1) bs
lay-more w w' k bs h before made kept =
    let z : 0 + k ≡ k = omega arith in
    rows_more (buffer_in w') 0 k
    ∙ ap₂ (λ (l : List Buffer) (x : Buffer). l ++ (x ∷ []))
    (rows_same (buffer_in w') (buffer_in w) 0 k (λ i a b. buffer-like w' w i (λ j l. below_get (11 * k) w w' kept (11 * i + j) (omega arith))) ∙ before)
    (ap (buffer_in w') z ∙ made)
    ∙ sym (take-suc bs k nothing h)
    ∙ ap (λ (n : ℕ). take n bs) (sym (add-one k))

-- and its flag
pub flags-more : (w w' : List ℕ) (k : ℕ) → Flags w k → get_or w' (11 * k + 10) 0 ≤ 1 → take (11 * k) w' ≡ take (11 * k) w → Flags w' (k + 1)
flags-more w w' k before flag kept j h =
    by-lt j k (λ l. rw (below_get (11 * k) w w' kept (11 * j + 10) (omega arith)) (before j l)) (λ l. let e : j ≡ k = omega arith in rw e flag)
