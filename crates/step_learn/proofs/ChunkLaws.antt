-- A chunk in a buffer's words: whether it is another than nil, whether it is a fact's, and the row that it is written as.
use Prim.Native.Nat.{ℕ, zero, suc, ◌+◌, ◌-◌, ◌*◌, ◌≤◌, ◌<◌}
use mathlib.Core.Path.{◌≡◌, refl, sym, ap, ap₂, ◌∙◌}
use mathlib.Core.Bool.{Bool, true, false, ◌&&◌, not}
use mathlib.Core.List.{List, [], ◌∷◌, ◌++◌, map}
use native.Mathlib.Omega.{arith}
use lib.Dec.{eqb}
use lib.ListN.{length, get_or, set, take, drop, length-set}
use lib.Seq.{sets, drop-cons}
use lib.Pointwise.{pointwise}
use borrow.Rule.Slice.PartMut.{put_mid}
use Rattle.std.specs.Prelude.{replicate}
use borrow.Author.Tests.{eq-eqb, ne_eqb}
use Rattle.meaning.specs.Base.{up_from}
use Rattle.meaning.specs.Model.{Fact}
use Rattle.meaning.specs.Learning.{chunk_of, equal, learned}
use Rattle.layout.specs.Rows.{rows_in, fact_in, facts_in}
use Rattle.layout.specs.StateWords.{buffer_in}
use Rattle.layout.proofs.RowLaws.{rows_same, rows-length, rows_get, map-up_from, fact-like, in-more}
use Rattle.layout.proofs.WordLaws.{lent-sets}
use Rattle.step_learn.specs.Clears.{gives}

map_rows : (f : ℕ → ℕ) (i n : ℕ) → map f (up_from i n) ≡ rows_in f i n
unfolding rows_in
map_rows f i zero = refl
map_rows f i (suc n) = ap (λ (l : List ℕ). f i ∷ l) (map_rows f (i + 1) n)

-- ---- words of a list that stand one after the other

rows-part : (w : List ℕ) (q n i : ℕ) → q + i + n ≤ length w → take n (drop (q + i) w) ≡ rows_in (λ j. get_or w (q + j) 0) i n
unfolding rows_in
rows-part w q zero i h = refl
rows-part w q (suc n) i h =
    let e : suc (q + i) ≡ q + (i + 1) = omega arith in
    rw (drop-cons w (q + i) 0 (omega arith), e, rows-part w q n (i + 1) (omega arith))

-- eight of them
pub eight-words : (w : List ℕ) (q m : ℕ) → m ≡ 8 → q + 8 ≤ length w → take m (drop q w) ≡ rows_in (λ j. get_or w (q + j) 0) 0 8
eight-words w q m e h =
    let z : q ≡ q + 0 = omega arith in
    ap (λ (n : ℕ). take n (drop q w)) e ∙ ap (λ (i : ℕ). take 8 (drop i w)) z ∙ rows-part w q 8 0 (omega arith)

-- nine of them, of which the last eight are slots
nine-words : (w : List ℕ) (q m : ℕ) → m ≡ 9 → q + 9 ≤ length w → take m (drop q w) ≡ get_or w q 0 ∷ rows_in (λ j. get_or w (q + 1 + j) 0) 0 8
nine-words w q m e h =
    let z : suc q ≡ q + 1 = omega arith in
    ap (λ (n : ℕ). take n (drop q w)) e ∙ ap (take 9) (drop-cons w q 0 (omega arith))
    ∙ ap (λ (l : List ℕ). get_or w q 0 ∷ l) (ap (λ (i : ℕ). take 8 (drop i w)) z ∙ eight-words w (q + 1) 8 refl (omega arith))

-- the slots of buffer b, and of the fact at f
abbrev pub slot_in : List ℕ → ℕ → ℕ → ℕ
slot_in state b i = get_or state (11 * b + 1 + i) 0

abbrev pub fact_slot : List ℕ → ℕ → ℕ → ℕ
fact_slot facts f i = get_or facts (f + 3 + i) 0

-- ---- another chunk than nil in a visible buffer

pub gives-now : (state : List ℕ) (b : ℕ) → 88 ≤ length state → b < 8 → get_or state (11 * b + 9) 0 ≡ 0
    → not (pointwise eqb (take (11 * b + 9 - 11 * b) (drop (11 * b) state)) (replicate 9 0)) ≡ gives (buffer_in state b)
unfolding rows_in
gives-now state b long low now =
    rw (nine-words state (11 * b) (11 * b + 9 - 11 * b) (omega arith) (omega arith), eq-eqb (get_or state (11 * b + 9) 0) 0 now)

-- ---- a buffer's chunk and a fact's

module _ (state : List ℕ) (b : ℕ) (facts : List ℕ) (f : ℕ) where
  abbrev pub same_chunk : Bool
  same_chunk = equal (chunk_of (buffer_in state b)) (fact_in facts f).chunk

  pub chunk-slots : 88 ≤ length state → b < 8 → f + 11 ≤ length facts → get_or state (11 * b) 0 ≡ get_or facts f 0
      → pointwise eqb (take (11 * b + 9 - (11 * b + 1)) (drop (11 * b + 1) state)) (take (f + 11 - (f + 3)) (drop (f + 3) facts)) ≡ same_chunk
  unfolding rows_in
  chunk-slots long low room e =
      rw (
        eight-words state (11 * b + 1) (11 * b + 9 - (11 * b + 1)) (omega arith) (omega arith),
        eight-words facts (f + 3) (f + 11 - (f + 3)) (omega arith) (omega arith),
        eq-eqb (get_or state (11 * b) 0) (get_or facts f 0) e,
      )

  -- a fact whose first slot is another
  pub chunk-first : (get_or state (11 * b + 1) 0 ≡ get_or facts (f + 3) 0 → ⊥) → same_chunk ≡ false
  unfolding rows_in
  chunk-first n =
      let z : 11 * b + 1 + 0 ≡ 11 * b + 1 = omega arith in
      let y : f + 3 + 0 ≡ f + 3 = omega arith in
      rw (ne_eqb (get_or state (11 * b + 1 + 0) 0) (get_or facts (f + 3 + 0) 0) (λ e. n (sym (ap (λ (i : ℕ). get_or state i 0) z) ∙ e ∙ ap (λ (i : ℕ). get_or facts i 0) y)))
      (elim (eqb (get_or state (11 * b) 0) (get_or facts f 0)) as (λ t. (t && false) ≡ false) [ true ↦ refl | false ↦ refl ])

-- ---- the row

-- three words and then eight, one after the other
pub row_written : (w : List ℕ) (q x y z : ℕ) (ws : List ℕ) → sets (set (set (set w q x) (q + 1) y) (q + 2) z) (q + 3) ws ≡ sets w q (x ∷ y ∷ z ∷ ws)
row_written w q x y z ws =
    let a : q + 1 ≡ suc q = omega arith in
    let b : q + 2 ≡ suc (suc q) = omega arith in
    let c : q + 3 ≡ suc (suc (suc q)) = omega arith in
    rw (a, b, c)

-- eight slots after a type, activation 0 and latency 50
row_is : (state : List ℕ) (b : ℕ) (ws : List ℕ) → ((i : ℕ) → i < 8 → get_or ws i 0 ≡ slot_in state b i)
    → fact_in (get_or state (11 * b) 0 ∷ 0 ∷ 50 ∷ ws) 0 ≡ learned (chunk_of (buffer_in state b))
row_is state b ws h =
    let row : List ℕ = get_or state (11 * b) 0 ∷ 0 ∷ 50 ∷ ws in
    let at : (i : ℕ) → i < 8 → fact_slot row 0 i ≡ slot_in state b i = λ i l. let g : 0 + 3 + i ≡ suc (suc (suc i)) = omega arith in ap (λ (n : ℕ). get_or row n 0) g ∙ h i l in
    ap (λ (l : List ℕ). record { chunk = record { isa = get_or state (11 * b) 0; slots = l }; activation = 0; latency = 50 })
    (map-up_from (fact_slot row 0) (slot_in state b) 0 8 at ∙ map_rows (slot_in state b) 0 8)

facts-from : (w : List ℕ) (n : ℕ) → facts_in w n ≡ rows_in (λ k. fact_in w (0 + 11 * k)) 0 n
facts-from w n = rows_same (λ k. fact_in w (11 * k)) (λ k. fact_in w (0 + 11 * k)) 0 n (λ k a b. ap (fact_in w) (omega arith))

-- a row after n others, of which the last eight words were copied from the slots of a buffer, is one fact more
pub row_more : (news : List ℕ) (n : ℕ) (state : List ℕ) (b : ℕ) (own : List ℕ) → 11 * n + 11 ≤ length news → 88 ≤ length state → b < 8
    → own ≡ take (11 * b + 9 - (11 * b + 1)) (drop (11 * b + 1) state)
    → facts_in (put_mid (11 * n + 3) (11 * n + 11 - (11 * n + 3)) (set (set (set news (11 * n) (get_or state (11 * b) 0)) (11 * n + 1) 0) (11 * n + 2) 50) own) (n + 1)
    ≡ (facts_in news n ++ (learned (chunk_of (buffer_in state b)) ∷ []))
row_more news n state b own room long low e =
    let q : ℕ = 11 * n in
    let isa : ℕ = get_or state (11 * b) 0 in
    let three : List ℕ = set (set (set news q isa) (q + 1) 0) (q + 2) 50 in
    let ws : List ℕ = rows_in (slot_in state b) 0 8 in
    let slots : own ≡ ws = e ∙ eight-words state (11 * b + 1) (11 * b + 9 - (11 * b + 1)) (omega arith) (omega arith) in
    let eight : length ws ≡ 8 = rows-length (slot_in state b) 0 8 in
    let count : q + 11 - (q + 3) ≡ q + 3 + 8 - (q + 3) = omega arith in
    let as_long : length three ≡ length news = length-set (set (set news q isa) (q + 1) 0) (q + 2) 50 ∙ length-set (set news q isa) (q + 1) 0 ∙ length-set news q isa in
    let put : put_mid (q + 3) (q + 11 - (q + 3)) three own ≡ sets news q (isa ∷ 0 ∷ 50 ∷ ws) =
    ap₂ (λ (k : ℕ) (l : List ℕ). put_mid (q + 3) k three l) count slots ∙ lent-sets (q + 3) 8 three ws (omega arith) eight ∙ row_written news q isa 0 50 ws in
    let at : (i : ℕ) → i < 8 → get_or ws i 0 ≡ slot_in state b i = λ i l. let z : 0 + i ≡ i = omega arith in rows_get (slot_in state b) 0 8 i 0 l ∙ ap (slot_in state b) z in
    let z : q ≡ 0 + q = omega arith in
    let row : List ℕ = isa ∷ 0 ∷ 50 ∷ ws in
    ap (λ (l : List ℕ). facts_in l (n + 1)) put
    ∙ rw z (facts-from (sets news (0 + 11 * n) row) (n + 1) ∙ in-more fact_in fact-like news 0 n row (ap (λ (i : ℕ). suc (suc (suc i))) eight) (omega arith)
    ∙ ap₂ (λ (l : List Fact) (x : Fact). l ++ (x ∷ [])) (sym (facts-from news n)) (row_is state b ws at))
